-- For private calls: a line whose block was written at its members.
use Rattle.std.specs.Prelude.{◌≡◌, ℕ, ◌+◌, ◌≤◌, ◌<◌, All, List, [], length}
use Rattle.oz_buffer.specs.Buffer.{AllFollow, Follows}
use Rattle.oz_client.specs.declared.step.Step.TheVariants as steps
use Rattle.oz_client.specs.declared.step.Written.{Written}
use Rattle.oz_command.specs.declared.command.Command.{Command}
use Rattle.oz_command.specs.Payload.{bytes_from, data_length}
use Rattle.oz_core.specs.declared.event.Event.{Event}
use Rattle.oz_core.specs.declared.opening.Opening.{Opening}
use Rattle.oz_core.specs.Contents.{OpeningBytes}
use Rattle.oz_fields.specs.declared.block.Block.{Block}
use Rattle.oz_fields.specs.declared.block.TheConstants.{LONGEST_PIECE}
use Rattle.oz_rows.specs.Rows.{IsBlock}
use Rattle.oz_script.specs.declared.lines.script.Script.{Script}
use Rattle.oz_nodes.specs.declared.nodes.TheConstants.{FEWEST_NODES}
use Rattle.oz_turn.specs.Told.{BeginsWith}
use Rattle.oz_line_blocks.specs.writing.Written.{IsWritten}
use Rattle.oz_at_work.specs.AtWork.{IsAtWork, WorkView, id_of}
use Rattle.oz_at_work.specs.declared.piece.NoPut.{NoPut}
use Rattle.oz_at_work.specs.declared.piece.NoPut.TheVariants as reasons

-- The line writes these bytes next as this block at these members, and they begin there in its data.
pub record IsPutNext (work : WorkView) (block : Block) (members : List ℕ) (first : ℕ) (content : List ℕ) : Type 0 where
  pub count : ℕ
  pub next : work.next ≡ steps.Write block members first count
  pub content_is : content ≡ bytes_from work.line.command first count

-- A command's data has so many bytes from a place on, and they are as many as a piece may have.
pub record HasBytes (command : Command) (first count : ℕ) : Type 0 where
  pub least : 1 ≤ count
  pub most : count ≤ LONGEST_PIECE
  pub within : first + count ≤ data_length command

-- The line writes so many bytes of its data next, as a block at members of so many datanodes.
pub record MayPut (work : WorkView) (nodes : ℕ) : Type 0 where
  pub block : Block
  pub members : List ℕ
  pub first : ℕ
  pub count : ℕ
  pub next : work.next ≡ steps.Write block members first count
  pub of_nodes : work.nodes ≡ nodes
  pub is_block : IsBlock block
  pub below : All (λ dn. dn < nodes) members
  pub has : HasBytes work.line.command first count

-- why it puts nothing, where there are so many datanodes
abbrev pub HasNoPut : WorkView → ℕ → NoPut → Type 0
HasNoPut work nodes reasons.Nothing = MayPut work nodes → ⊥
HasNoPut work nodes reasons.OutOfMemory = MayPut work nodes

-- Behind what was seen before its block was written at its members, who answered so, by which so often something is said
-- of the line's blocks.
pub record WasWritten (Coherent : Type 0) (opening : Opening) (bytes : OpeningBytes) (script : Script)
    (seen : List Event) (work : WorkView) (written : Written) (said : ℕ) : Type 0 where
  pub before : List Event
  pub at_work : IsAtWork Coherent opening bytes script before work
  pub goes_on : BeginsWith seen before
  pub follow : AllFollow (Follows Coherent opening bytes script) [] seen
  pub nodes : work.nodes ≡ length opening.nodes
  pub least : FEWEST_NODES ≤ length opening.nodes
  pub block : Block
  pub members : List ℕ
  pub first : ℕ
  pub count : ℕ
  pub next : work.next ≡ steps.Write block members first count
  pub are : IsWritten (id_of work.line work.asked) block members work.said written.answers said seen
