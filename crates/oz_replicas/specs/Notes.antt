-- What each note says of a datanode.
use Rattle.std.specs.Prelude.{◌≡◌, ℕ, ◌≤◌, List, [], ◌∷◌, length, Contains, Option}
use Rattle.oz_datanode.specs.Datanode.{State}
use Rattle.oz_fields.specs.declared.block.Block.{Block}
use Rattle.oz_fields.specs.declared.block.TheConstants.{LONGEST_PIECE}
use Rattle.oz_replicas.specs.Outcomes.{IsPut, IsReason, Halts, FindsBad}
use Rattle.oz_replicas.specs.Stays.{Stays}
use Rattle.oz_replicas.specs.declared.note.Note.{Note}
use Rattle.oz_replicas.specs.declared.note.Note.TheVariants as notes
use Rattle.oz_world.specs.Disk.{Images}

-- what is noted of: a block, the datanodes that are asked for it, and the bytes that are put
pub record Subject : Type 0 where
  pub block : Block
  pub members : List ℕ
  pub bytes : List ℕ

-- The datanode is one of those that are asked, and has this number.
pub record IsMember {D : Type 0} (subject : Subject) (dn : ℕ) (node : State D) : Type 0 where
  pub member : Contains subject.members dn
  pub its : dn ≡ node.id

-- what has to hold where the note is of a block that came to be held
abbrev pub IfPut : Note → Type 0 → Type 0
IfPut (notes.Put dn block size) May = May
IfPut (notes.Refused dn block refusal) May = Unit {0}
IfPut (notes.Halt dn count) May = Unit {0}
IfPut (notes.Bad dn block) May = Unit {0}

-- There is something to put, and no more than a piece has.
pub record IsPiece (bytes : List ℕ) : Type 0 where
  pub least : 1 ≤ length bytes
  pub most : length bytes ≤ LONGEST_PIECE

-- Between the two a datanode did what the note says, and nothing else that is noted.
abbrev pub Leads : {D : Type 0} → (D → Option (List ℕ)) → (D → ℕ) → (D → Images) → (D → ℕ) → Subject → Note → State D
    → State D → Type 0
Leads told clock image faults subject (notes.Put dn block size) old new =
    IsMember subject dn old × (block ≡ subject.block) × (size ≡ length subject.bytes) × IsPiece subject.bytes
    × IsPut told clock image faults subject.block subject.bytes old new
Leads told clock image faults subject (notes.Refused dn block refusal) old new =
    IsMember subject dn old × (block ≡ subject.block)
    × IsReason faults subject.block subject.bytes old refusal × (new ≡ old)
Leads told clock image faults subject (notes.Halt dn count) old new =
    IsMember subject dn old × Halts told clock image faults subject.block subject.bytes old new count
Leads told clock image faults subject (notes.Bad dn block) old new =
    IsMember subject dn old × (block ≡ subject.block) × FindsBad told clock image faults subject.block old new

-- so it did by these notes, in their order
abbrev pub Goes : {D : Type 0} → (D → Option (List ℕ)) → (D → ℕ) → (D → Images) → (D → ℕ) → Subject → List Note
    → State D → State D → Type 0
Goes told clock image faults subject [] old new = Stays told clock image faults old new
Goes {D} told clock image faults subject (note ∷ notes) old new =
    (before : State D) × ((after : State D) × (Stays told clock image faults old before
    × Leads told clock image faults subject note before after
    × Goes told clock image faults subject notes after new))
