-- That a line has named a key.
use Rattle.std.specs.Prelude.{◌≡◌, List, ◌++◌, Some}
use Rattle.oz_namespace.specs.Namespace.{pieces_of}
use Rattle.oz_requests.specs.declared.reply.Reply.TheVariants as replies
use Rattle.oz_script.specs.declared.lines.script.Line.{Line}
use Rattle.oz_core.specs.declared.event.Event.{Event}
use Rattle.oz_core.specs.declared.opening.Opening.{Opening}
use Rattle.oz_core.specs.Contents.{written_for}
use Rattle.oz_core.specs.Due.{last_reply}
use Rattle.oz_core.specs.Manager.{namespace_of}
use Rattle.oz_core.specs.Steps.{Target, pieces_from}

-- At a place of the story, behind a reply to the line that its step is done and before any later reply to it, the key
-- has exactly the pieces that the whole story writes for the line, in their order.
pub record HasNamed (opening : Opening) (story : List Event) (line : Line) (to : Target) : Type 0 where
  pub front : List Event
  pub rest : List Event
  pub parts : story ≡ front ++ rest
  pub replied : last_reply front line ≡ Some replies.Done
  pub named : pieces_of (namespace_of opening front) to.volume to.bucket to.key
      ≡ Some (pieces_from 0 line.command (written_for line.client line.number story))
