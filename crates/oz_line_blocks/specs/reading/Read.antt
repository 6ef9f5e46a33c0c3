-- What a line knows of a piece that it reads at the members of its block, and what comes of that.
use Rattle.std.specs.Prelude.{◌≡◌, ◌⊎◌, ℕ, false, List, [], ◌∷◌, length, Option, None, Some, All, Contains}
use Rattle.oz_core.specs.declared.event.Event.{Event}
use Rattle.oz_core.specs.declared.event.Node.{Node}
use Rattle.oz_core.specs.declared.opening.Opening.{Opening}
use Rattle.oz_core.specs.Asks.{is_own}
use Rattle.oz_core.specs.Contents.{HasContent, OpeningBytes}
use Rattle.oz_core.specs.Law.{IsNamed}
use Rattle.oz_core.specs.Nodes.{is_intact}
use Rattle.oz_core.specs.Scm.{members}
use Rattle.oz_fields.specs.declared.block.Piece.{Piece}
use Rattle.oz_script.specs.declared.lines.script.Script.{Script}
use Rattle.oz_node_events.specs.NodeSeat.{SeatView, StandsFor}
use Rattle.oz_node_events.specs.Noting.{AreTold}
use Rattle.oz_replicas.specs.Notes.{Subject}
use Rattle.oz_replicas.specs.Reading.{Gave}
use Rattle.oz_replicas.specs.declared.note.Note.{Note}
use Rattle.oz_requests.specs.declared.request.AskId.{AskId}
use Rattle.oz_asker.specs.telling.Still.{AllStandStill}
use Rattle.oz_underway.specs.GoingOn.{FromHereOn}
use Rattle.oz_world.specs.Disk.{Images}
use Rattle.oz_line_blocks.specs.declared.reading.lack.Doubted.{Doubted}
use Rattle.oz_line_blocks.specs.declared.reading.lack.Lack.{Lack}
use Rattle.oz_line_blocks.specs.declared.reading.lack.Lack.TheVariants as lacking
use Rattle.oz_line_blocks.specs.declared.reading.reading.Reading.{Reading}
use Rattle.oz_line_blocks.specs.declared.reading.reading.Reading.TheVariants.{Bytes, Nobody}
use Rattle.oz_line_blocks.specs.reading.Lacks.{IsAsked, IsDoubted, has_notes, lack_of, stills_in}

-- what is noted of: the piece's block, and the datanodes that are asked for it. Nothing is put
abbrev pub subject_of : Piece → List ℕ → Subject
subject_of piece dns = record { block = piece.block; members = dns; bytes = [] }

-- what came of these notes for the ask was told while the story went on from the first to the second
abbrev pub TellsFor : AskId → List Event → List Note → List Event → Type 0
TellsFor id seen said later = AreTold id 0 said seen later

-- a datanode's seat has seen this story, and no more of it
abbrev pub HasSeenJust : List Event → SeatView → Type 0
HasSeenJust story view = view.seen ≡ story

module _ (Coherent : Type 0) (opening : Opening) (bytes : OpeningBytes) (script : Script) (id : AskId)
    (piece : Piece) where
  -- From here on a Decide of the id, which isn't its line's own, named the piece's block; the content of the block is
  -- as long as the piece; and these are the members of its container.
  pub record MayRead (dns : List ℕ) (seen : List Event) : Type 0 where
    pub named : FromHereOn Coherent opening bytes script seen
        (λ story. IsNamed story id piece.block × (is_own id ≡ false))
    pub whole : FromHereOn Coherent opening bytes script seen (λ story. (content : List ℕ)
        → HasContent opening bytes script story piece.block content → length content ≡ piece.length)
    pub its_members : FromHereOn Coherent opening bytes script seen
        (λ story. members opening story piece.block.container ≡ dns)

  -- From here on no member of the block's container is intact for the id, as long as those that hadn't the block don't
  -- come to have it. Those that were doubted never will be, whatever comes.
  abbrev pub NobodyHasIt : List Lack → List Event → Type 0
  NobodyHasIt lacks seen = FromHereOn Coherent opening bytes script seen (λ story. AllStandStill story (stills_in lacks)
      → All (λ dn. is_intact opening story id piece.block dn ≡ false) (members opening story piece.block.container))

  -- What is known then: the bytes are the content of the block, and as many as the piece has; or nobody has it, and
  -- those are doubted of which it is said.
  abbrev pub IsKnownOf : List Event → Reading → Type 0
  IsKnownOf seen (Bytes read) =
      (length read.items ≡ piece.length) × (Coherent → HasContent opening bytes script seen piece.block read.items)
  IsKnownOf seen (Nobody lacks) = Coherent
      → ((dn : ℕ) → Contains lacks (lacking.Doubted dn) → IsDoubted seen id piece.block dn) × NobodyHasIt lacks seen

module _ {D : Type 0} (told : D → Option (List ℕ)) (clock : D → ℕ) (image : D → Images) (faults : D → ℕ)
    (Coherent : Type 0) (opening : Opening) (bytes : OpeningBytes) (script : Script) (loaded : Node → ℕ) (id : AskId)
    (piece : Piece) (dns : List ℕ) where
  -- A member gave these bytes of the piece, or none, under its lock, and told for the id what came of it.
  abbrev pub GaveAt : ℕ → Option (List ℕ) → List Event → List Event → Type 0
  GaveAt dn given seen later =
      Gave told clock image faults (StandsFor told clock image faults Coherent opening bytes script loaded)
      (TellsFor id) HasSeenJust (subject_of piece dns) piece.length dn given seen later

  -- A member that was asked gave none, and lacks the block for this reason.
  abbrev pub GaveNone : ℕ → Lack → List Event → List Event → Type 0
  GaveNone dn lack seen later =
      (gave : GaveAt dn None seen later) × (lack ≡ lack_of dn piece.block (has_notes gave.said) (length later))

  module _ (doubted : Doubted) where
    -- A member gives none for this reason. One that was doubted isn't asked, and nothing is appended.
    abbrev pub LacksAt : ℕ → Lack → List Event → List Event → Type 0
    LacksAt dn lack seen later =
        (Contains doubted.dns (Some dn) × (lack ≡ lacking.Doubted dn) × (later ≡ seen))
        ⊎ (IsAsked doubted dn × GaveNone dn lack seen later)

    -- Each of these members gives none, one after the other, for these reasons.
    abbrev pub AllLack : List ℕ → List Lack → List Event → List Event → Type 0
    AllLack [] [] seen later = later ≡ seen
    AllLack [] (lack ∷ lacks) seen later = ⊥
    AllLack (dn ∷ rest) [] seen later = ⊥
    AllLack (dn ∷ rest) (lack ∷ lacks) seen later =
        (next : List Event) × (LacksAt dn lack seen next × AllLack rest lacks next later)

    -- The bytes are those of the first of these members that gives any.
    abbrev pub FirstGives : List ℕ → List ℕ → List Event → List Event → Type 0
    FirstGives [] read seen later = ⊥
    FirstGives (dn ∷ rest) read seen later =
        (IsAsked doubted dn × GaveAt dn (Some read) seen later)
        ⊎ ((lack : Lack) × ((next : List Event) × (LacksAt dn lack seen next × FirstGives rest read next later)))

    -- What comes of it that the members are asked: bytes, or nobody has them.
    abbrev pub ComesOf : List Event → List Event → Reading → Type 0
    ComesOf seen later (Bytes read) = FirstGives dns read.items seen later
    ComesOf seen later (Nobody lacks) = AllLack dns lacks seen later

    -- Some of these members gave none, and nothing was told of the next one for want of memory.
    abbrev pub EndsShort : List ℕ → List Event → List Event → Type 0
    EndsShort [] seen later = ⊥
    EndsShort (dn ∷ rest) seen later =
        (IsAsked doubted dn × TellsFor id seen [] later)
        ⊎ ((lack : Lack) × ((next : List Event) × (LacksAt dn lack seen next × EndsShort rest next later)))
