-- What reading a piece at one member of its block comes to. For private calls.
use Rattle.std.specs.Prelude.{◌≡◌, ℕ, false, List, Option, Some}
use Rattle.oz_core.specs.declared.event.Event.{Event}
use Rattle.oz_core.specs.declared.event.Node.{Node}
use Rattle.oz_core.specs.declared.opening.Opening.{Opening}
use Rattle.oz_core.specs.Contents.{OpeningBytes}
use Rattle.oz_core.specs.Nodes.{is_intact}
use Rattle.oz_datanode.specs.Datanode.{State}
use Rattle.oz_datanode.specs.declared.unverified.Unverified.{Unverified}
use Rattle.oz_fields.specs.declared.block.Piece.{Piece}
use Rattle.oz_script.specs.declared.lines.script.Script.{Script}
use Rattle.oz_replicas.specs.Notes.{Goes}
use Rattle.oz_replicas.specs.Reading.{IsGiven, Opens}
use Rattle.oz_replicas.specs.declared.note.Note.{Note}
use Rattle.oz_requests.specs.declared.request.AskId.{AskId}
use Rattle.oz_asker.specs.telling.Still.{StandsStill}
use Rattle.oz_underway.specs.GoingOn.{FromHereOn}
use Rattle.oz_world.specs.Disk.{Images}
use Rattle.oz_line_blocks.specs.declared.reading.copied.Copied.{Copied}
use Rattle.oz_line_blocks.specs.declared.reading.copied.Copied.TheVariants.{Chunks, Without}
use Rattle.oz_line_blocks.specs.declared.reading.member.AtMember.{AtMember}
use Rattle.oz_line_blocks.specs.declared.reading.member.AtMember.TheVariants.{Gave, Nothing}
use Rattle.oz_line_blocks.specs.declared.reading.lack.Doubted.{Doubted}
use Rattle.oz_line_blocks.specs.declared.reading.lack.Lack.{Lack}
use Rattle.oz_line_blocks.specs.declared.reading.lack.Lack.TheVariants as lacking
use Rattle.oz_line_blocks.specs.reading.Lacks.{IsAsked, IsDoubted}
use Rattle.oz_line_blocks.specs.reading.Read.{GaveAt, GaveNone, LacksAt, TellsFor, subject_of}

-- A datanode gave these bytes, or none, and what came of that was told.
pub record IsGivenAt {D : Type 0} (told : D → Option (List ℕ)) (clock : D → ℕ) (image : D → Images) (faults : D → ℕ)
    (id : AskId) (piece : Piece) (dns : List ℕ) (old new : State D) (given : Option (List ℕ)) (seen later : List Event)
    : Type 0 where
  pub said : List Note
  pub told_so : TellsFor id seen said later
  pub goes : Goes told clock image faults (subject_of piece dns) said old new
  pub given_so : IsGiven told clock image faults (subject_of piece dns) piece.length old new given said

-- A datanode's chunks were copied, or none were, and what came of that was told. What they give once they are verified the
-- datanode gave.
pub record IsCopiedAt {D : Type 0} (told : D → Option (List ℕ)) (clock : D → ℕ) (image : D → Images) (faults : D → ℕ)
    (id : AskId) (piece : Piece) (dns : List ℕ) (old new : State D) (chunks : Option (List Unverified))
    (seen later : List Event) : Type 0 where
  pub said : List Note
  pub told_so : TellsFor id seen said later
  pub goes : Goes told clock image faults (subject_of piece dns) said old new
  pub opens : (given : Option (List ℕ)) → Opens piece.length chunks given
      → IsGiven told clock image faults (subject_of piece dns) piece.length old new given said

-- A datanode isn't intact for the id: it is doubted; or it hasn't the block, as long as it doesn't come to have it.
abbrev pub LacksIt : Type 0 → Opening → OpeningBytes → Script → AskId → Piece → ℕ → List Event → Lack → Type 0
LacksIt Coherent opening bytes script id piece dn seen (lacking.Doubted other) =
    (other ≡ dn) × (Coherent → IsDoubted seen id piece.block dn)
LacksIt Coherent opening bytes script id piece dn seen (lacking.Absent still) = Coherent
    → FromHereOn Coherent opening bytes script seen
    (λ story. StandsStill story still → is_intact opening story id piece.block dn ≡ false)

-- A member that was asked gave bytes; or it gave none, and isn't intact.
abbrev pub CameAt : {D : Type 0} → (D → Option (List ℕ)) → (D → ℕ) → (D → Images) → (D → ℕ) → Type 0 → Opening
    → OpeningBytes → Script → (Node → ℕ) → AskId → Piece → List ℕ → ℕ → List Event → List Event → AtMember → Type 0
CameAt told clock image faults Coherent opening bytes script loaded id piece dns dn seen later (Gave read) =
    GaveAt told clock image faults Coherent opening bytes script loaded id piece dns dn (Some read.items) seen later
CameAt told clock image faults Coherent opening bytes script loaded id piece dns dn seen later (Nothing lack) =
    GaveNone told clock image faults Coherent opening bytes script loaded id piece dns dn lack seen later
    × LacksIt Coherent opening bytes script id piece dn later lack

-- The chunks of a member that was asked were copied, and it gave what they give once they are verified; or it gave none, and
-- isn't intact.
abbrev pub CopiedAt : {D : Type 0} → (D → Option (List ℕ)) → (D → ℕ) → (D → Images) → (D → ℕ) → Type 0 → Opening
    → OpeningBytes → Script → (Node → ℕ) → AskId → Piece → List ℕ → ℕ → List Event → List Event → Copied → Type 0
CopiedAt told clock image faults Coherent opening bytes script loaded id piece dns dn seen later (Chunks chunks) =
    (given : List ℕ) → Opens piece.length (Some chunks.items) (Some given)
    → GaveAt told clock image faults Coherent opening bytes script loaded id piece dns dn (Some given) seen later
CopiedAt told clock image faults Coherent opening bytes script loaded id piece dns dn seen later (Without lack) =
    GaveNone told clock image faults Coherent opening bytes script loaded id piece dns dn lack seen later
    × LacksIt Coherent opening bytes script id piece dn later lack

-- A member gave bytes, or gives none and isn't intact. One that was doubted before isn't asked.
abbrev pub ComesAt : {D : Type 0} → (D → Option (List ℕ)) → (D → ℕ) → (D → Images) → (D → ℕ) → Type 0 → Opening
    → OpeningBytes → Script → (Node → ℕ) → AskId → Piece → List ℕ → Doubted → ℕ → List Event → List Event → AtMember
    → Type 0
ComesAt told clock image faults Coherent opening bytes script loaded id piece dns doubted dn seen later (Gave read) =
    IsAsked doubted dn × GaveAt told clock image faults Coherent opening bytes script loaded id piece dns dn (Some read.items) seen later
ComesAt told clock image faults Coherent opening bytes script loaded id piece dns doubted dn seen later (Nothing lack) =
    LacksAt told clock image faults Coherent opening bytes script loaded id piece dns doubted dn lack seen later
    × LacksIt Coherent opening bytes script id piece dn later lack
