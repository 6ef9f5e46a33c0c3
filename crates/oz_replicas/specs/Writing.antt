-- What writing a block at its members comes to.
use Rattle.std.specs.Prelude.{◌≡◌, ◌⊎◌, ℕ, ◌<◌, List, [], ◌∷◌, length, take, Option, None, Some}
use Rattle.oz_core.specs.declared.event.PutRefusal.{PutRefusal}
use Rattle.oz_core.specs.declared.event.PutRefusal.TheVariants as refusals
use Rattle.oz_datanode.specs.Datanode.{State}
use Rattle.oz_fields.specs.declared.block.Block.{Block}
use Rattle.oz_replicas.specs.Notes.{Subject, Goes}
use Rattle.oz_replicas.specs.Outcomes.{HasAlready}
use Rattle.oz_replicas.specs.declared.note.Note.{Note}
use Rattle.oz_replicas.specs.declared.note.Note.TheVariants as notes
use Rattle.oz_world.specs.Disk.{Images}

-- the notes that an answer of a member comes with
abbrev pub ComesWith : ℕ → Block → ℕ → Option PutRefusal → List Note → Type 0
ComesWith dn block size None said = (said ≡ []) ⊎ (said ≡ notes.Put dn block size ∷ [])
ComesWith dn block size (Some refusal) said =
    (said ≡ notes.Refused dn block refusal ∷ [])
    ⊎ ((count : ℕ) × (refusal ≡ refusals.Stopped count)
    × (said ≡ notes.Halt dn count ∷ notes.Refused dn block refusal ∷ []))

-- A datanode answered this to a block that was to be put. Where nothing is noted it has the block already.
pub record Answers {D : Type 0} (told : D → Option (List ℕ)) (clock : D → ℕ) (image : D → Images) (faults : D → ℕ)
    (subject : Subject) (old new : State D) (answer : Option PutRefusal) (said : List Note) : Type 0 where
  pub noted_so : ComesWith old.id subject.block (length subject.bytes) answer said
  pub goes : Goes told clock image faults subject said old new
  pub already : said ≡ [] → HasAlready faults subject.block old

-- The member of this number answered it under its lock, and that was noted. The noter then knows all that is kept beside it.
pub record Answered {D K N : Type 0} (told : D → Option (List ℕ)) (clock : D → ℕ) (image : D → Images) (faults : D → ℕ)
    (stands : K → State D → Type 0) (noted : N → List Note → N → Type 0) (knows : N → K → Type 0) (subject : Subject) (dn : ℕ)
    (answer : Option PutRefusal) (before after : N) : Type 0 where
  pub old : State D
  pub new : State D
  pub member : old.id ≡ dn
  pub kept : (value : K) × stands value old
  pub left : (value : K) × (stands value new × knows after value)
  pub said : List Note
  pub told_so : noted before said after
  pub answers : Answers told clock image faults subject old new answer said

-- So did each of these members, one after the other.
abbrev pub AllAnswered : {D K N : Type 0} → (D → Option (List ℕ)) → (D → ℕ) → (D → Images) → (D → ℕ)
    → (K → State D → Type 0) → (N → List Note → N → Type 0) → (N → K → Type 0) → Subject → List ℕ
    → List (Option PutRefusal) → N → N → Type 0
AllAnswered told clock image faults stands noted knows subject [] [] before after = after ≡ before
AllAnswered told clock image faults stands noted knows subject [] (answer ∷ answers) before after = ⊥
AllAnswered told clock image faults stands noted knows subject (dn ∷ members) [] before after = ⊥
AllAnswered {D} {K} {N} told clock image faults stands noted knows subject (dn ∷ members) (answer ∷ answers) before after =
    (next : N) × (Answered told clock image faults stands noted knows subject dn answer before next
    × AllAnswered told clock image faults stands noted knows subject members answers next after)

-- Some of the members answered so, and the next one's lock was let go with nothing noted for want of memory.
pub record StopsShort {D K N : Type 0} (told : D → Option (List ℕ)) (clock : D → ℕ) (image : D → Images) (faults : D → ℕ)
    (stands : K → State D → Type 0) (noted : N → List Note → N → Type 0) (knows : N → K → Type 0) (subject : Subject) (members : List ℕ)
    (before after : N) : Type 0 where
  pub answers : List (Option PutRefusal)
  pub fewer : length answers < length members
  pub reached : N
  pub all : AllAnswered told clock image faults stands noted knows subject (take (length answers) members) answers before reached
  pub none : noted reached [] after
