-- Which bytes a datanode has of a block: those that its disks had as the run began, or those that an event gave it last.
use Rattle.std.specs.Prelude.{◌≡◌, ℕ, true, ◌&&◌, ◌==◌, List, [], ◌∷◌, Some, MatchBool, Contains}
use Rattle.oz_command.specs.Payload.{bytes_from}
use Rattle.oz_fields.specs.declared.block.Block.{Block}
use Rattle.oz_requests.specs.declared.request.AskId.{AskId}
use Rattle.oz_script.specs.declared.lines.script.Line.{Line}
use Rattle.oz_script.specs.declared.lines.script.Script.{Script}
use Rattle.oz_core.specs.declared.event.Event.{Event}
use Rattle.oz_core.specs.declared.event.EventKind.{EventKind}
use Rattle.oz_core.specs.declared.event.EventKind.TheVariants.{Put, Copy}
use Rattle.oz_core.specs.declared.opening.Opening.{Opening}
use Rattle.oz_core.specs.Contents.{OpeningBytes, IsLineOf}
use Rattle.oz_core.specs.Nodes.{is_block, was_held}

-- no two lines of a script have one client and one number
abbrev pub LinesAreApart : Script → Type 0
LinesAreApart script =
    (one other : Line) → Contains script.lines one → Contains script.lines other
    → one.client ≡ other.client → one.number ≡ other.number → one ≡ other

-- who has which bytes of the block
abbrev pub Having : Type 1
Having = ℕ → List ℕ → Type 0

-- before any event
pub record HadAtOpening (opening : Opening) (bytes : OpeningBytes) (block : Block) (dn : ℕ) (content : List ℕ) : Type 0 where
  pub held : was_held opening dn block ≡ true
  pub are : bytes dn block ≡ Some content

-- so many bytes of the data of an ask's line, from a place on
pub record ArePut (script : Script) (id : AskId) (first count : ℕ) (content : List ℕ) : Type 0 where
  pub line : Line
  pub its : IsLineOf script id.client id.line line
  pub are : content ≡ bytes_from line.command first count

-- After an event: a Put gives bytes of a line's data, and a Copy those that its source has.
abbrev pub HavingAfter : Script → Block → EventKind → Having → Having
HavingAfter script block (Put other put id first count) before dn content =
    MatchBool (other == dn && is_block block put) (ArePut script id first count content) (before dn content)
HavingAfter script block (Copy source target copied) before dn content =
    MatchBool (target == dn && is_block block copied) (before source content) (before dn content)
HavingAfter script block _ before dn content = before dn content

unfoldable pub HavingFrom : Script → Block → Having → List Event → Having
HavingFrom script block before [] = before
HavingFrom script block before (event ∷ story) = HavingFrom script block (HavingAfter script block event.kind before) story

-- the datanode has these bytes of the block, where it has it
abbrev pub HasBytes : Opening → OpeningBytes → Script → List Event → Block → ℕ → List ℕ → Type 0
HasBytes opening bytes script story block dn content =
    HavingFrom script block (HadAtOpening opening bytes block) story dn content
