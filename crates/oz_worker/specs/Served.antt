-- What the work for a client rests on.
use Rattle.std.specs.Prelude.{◌≡◌, ℕ, List, map, Option, None, Some, IfSome, slice_get}
use Rattle.std.specs.FinMap.{get}
use Rattle.oz_at_work.specs.AtWork.{HasLeft, IsAtWork}
use Rattle.oz_core.specs.declared.event.Event.{Event}
use Rattle.oz_core.specs.declared.opening.Opening.{Opening}
use Rattle.oz_core.specs.Contents.{OpeningBytes}
use Rattle.oz_core.specs.Steps.{opening_line}
use Rattle.oz_script.specs.declared.lines.script.Line.{Line}
use Rattle.oz_script.specs.declared.lines.script.Script.{Script}
use Rattle.oz_steps.specs.declared.label.Label.{Label}
use Rattle.oz_turn.specs.declared.seat.Seat.{Seat}
use Rattle.oz_turn.specs.declared.told.Told.{Ghosts as Tells}
use Rattle.oz_turn.specs.Ring.{TurnId}
use Rattle.oz_turn.specs.Seat.{IsReady, seen_of}
use Rattle.oz_turn.specs.Told.{BeginsWith}
use Rattle.oz_worker.specs.declared.client.Client.{Client}
use Rattle.oz_worker.specs.ClientLines.{lines_of_client}
use Rattle.oz_worker.specs.Labels.{LabelMap}

-- the first line of a client that wasn't told yet
abbrev pub next_line : Script → Client → Option Line
next_line script client = slice_get (lines_of_client script client.number) client.told

-- The seat is ready again, and has seen what it had seen, or more.
pub record StaysReady {T : Type 0} {told : Tells T Event} (turn : TurnId) (number : ℕ) (old new : Seat T Event told) : Type 0 where
  pub ready : IsReady turn number new
  pub goes_on : BeginsWith (seen_of new) (seen_of old)

-- That the disks agree, with what was loaded; the script; and what the worker's seat has seen.
module _ (Coherent : Type 0) (opening : Opening) (bytes : OpeningBytes) (script : Script) (seen : List Event) where
  -- What stands in a label is what the line that opened it last has left; nothing stands there where no line opened it.
  abbrev pub IsNoted : Option Line → Option (Option Label) → Type 0
  IsNoted None found = found ≡ None
  IsNoted (Some opened) found =
      (left : Option Label) × (found ≡ Some left) × HasLeft Coherent opening bytes script seen opened left

  -- so it is of each label before a line
  abbrev pub AreNoted : LabelMap → Line → Type 0
  AreNoted labels line = (name : List ℕ) → IsNoted (opening_line script line name) (get labels name)

  -- A client's lines are those of the script, and what is worked for is the next of them; its labels stand as they are
  -- before that.
  pub record IsServed (client : Client) : Type 0 where
    pub lines : map (λ line. line.now) client.lines.items ≡ lines_of_client script client.number
    pub next : IfSome client.work (λ work. next_line script client ≡ Some work.line)
    pub works : Coherent → IfSome client.work (IsAtWork Coherent opening bytes script seen)
    pub labels : Coherent → IfSome (next_line script client) (AreNoted client.labels.labels)
