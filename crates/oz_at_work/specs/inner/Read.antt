-- For private calls: a line that looked for its next piece.
use Rattle.std.specs.Prelude.{◌≡◌, ℕ, Bool, true, false, List, [], Some, Contains}
use Rattle.oz_buffer.specs.Buffer.{AllFollow, Follows}
use Rattle.oz_client.specs.declared.step.Got.{Got}
use Rattle.oz_client.specs.declared.step.Got.TheVariants as gots
use Rattle.oz_client.specs.declared.step.Step.TheVariants as steps
use Rattle.oz_core.specs.declared.event.Event.{Event}
use Rattle.oz_core.specs.declared.opening.Opening.{Opening}
use Rattle.oz_core.specs.Coherent.{IsCoherent}
use Rattle.oz_core.specs.Contents.{HasContent, OpeningBytes}
use Rattle.oz_fields.specs.declared.block.Piece.{Piece}
use Rattle.oz_script.specs.declared.lines.script.Script.{Script}
use Rattle.oz_line_blocks.specs.declared.reading.lack.Lack.{Lack}
use Rattle.oz_line_blocks.specs.declared.reading.lack.Lack.TheVariants as lacking
use Rattle.oz_line_blocks.specs.reading.Lacks.{IsDoubted}
use Rattle.oz_line_blocks.specs.reading.Read.{NobodyHasIt}
use Rattle.oz_turn.specs.Told.{BeginsWith}
use Rattle.oz_at_work.specs.AtWork.{IsAtWork, WorkView, id_of}

-- what came back is a piece
abbrev pub gives_piece : Got → Bool
gives_piece (gots.Read (Some bytes)) = true
gives_piece _ = false

-- The line reads this piece next, and no block was given up for it.
pub record IsReadNext (work : WorkView) (piece : Piece) : Type 0 where
  pub next : work.next ≡ steps.Read piece
  pub kept : work.gave_up ≡ false

-- Behind what was seen before its next piece was read, whose block has these bytes.
pub record WasRead (Coherent : Type 0) (opening : Opening) (bytes : OpeningBytes) (script : Script)
    (seen : List Event) (work : WorkView) (read : List ℕ) : Type 0 where
  pub before : List Event
  pub at_work : IsAtWork Coherent opening bytes script before work
  pub goes_on : BeginsWith seen before
  pub follow : AllFollow (Follows Coherent opening bytes script) [] seen
  pub piece : Piece
  pub its : IsReadNext work piece
  pub has : HasContent opening bytes script seen piece.block read

-- Behind what was seen before this piece, its next, was looked for nobody has it, for these reasons.
pub record WasMissed (Coherent : Type 0) (opening : Opening) (bytes : OpeningBytes) (script : Script)
    (seen : List Event) (work : WorkView) (piece : Piece) (lacks : List Lack) : Type 0 where
  pub before : List Event
  pub at_work : IsAtWork Coherent opening bytes script before work
  pub goes_on : BeginsWith seen before
  pub whole : IsCoherent opening bytes
  pub its : IsReadNext work piece
  pub doubted : (dn : ℕ) → Contains lacks (lacking.Doubted dn) → IsDoubted seen (id_of work.line work.asked) piece.block dn
  pub nobody : NobodyHasIt Coherent opening bytes script (id_of work.line work.asked) piece lacks seen
