-- The seat from which a line is worked for, and what stays of both. `Run` is what a bound `O: Opened` brings.
use Rattle.std.specs.Prelude.{◌≡◌, ℕ, ◌<◌, List}
use Rattle.oz_buffer.specs.declared.opened.Opened.{Ghosts as Run}
use Rattle.oz_core.specs.declared.event.Event.{Event}
use Rattle.oz_core.specs.Seats.{IsLineSeat}
use Rattle.oz_turn.specs.declared.seat.Seat.{Seat}
use Rattle.oz_turn.specs.declared.told.Told.{Ghosts as Tells}
use Rattle.oz_turn.specs.Ring.{TurnId}
use Rattle.oz_turn.specs.Seat.{IsReady, room_of, seen_of}
use Rattle.oz_turn.specs.Told.{BeginsWith}
use Rattle.oz_at_work.specs.AtWork.{HasGoneOn, HasLeft, IsAtWork, WorkView, left_of}

module _ {T : Type 0} {told : Tells T Event} (turn : TurnId) (number : ℕ) where
  -- a ready seat of the turn, with this number, from which lines are served
  pub record IsLinePart (seat : Seat T Event told) : Type 0 where
    pub ready : IsReady turn number seat
    pub seats : number < 64
    pub of_line : IsLineSeat number

  -- It is ready again, with its room, and has seen what it had seen, or more.
  pub record Gone (old new : Seat T Event told) : Type 0 where
    pub ready : IsReady turn number new
    pub room : room_of new ≡ room_of old
    pub goes_on : BeginsWith (seen_of new) (seen_of old)

module _ {O : Type 0} (run : Run O) (seen : List Event) where
  -- Where the disks agree, this is known of a line that is worked for.
  abbrev pub IsAtWorkIn : WorkView → Type 0
  IsAtWorkIn work = run.coherent → IsAtWork run.coherent run.opening run.bytes run.script seen work

  -- It is the same line, still worked for; and where it did something it has gone on.
  pub record StaysAtWork (Does : Type 0) (before after : WorkView) : Type 0 where
    pub line : after.line ≡ before.line
    pub works : IsAtWorkIn after
    pub went_on : Does → HasGoneOn before after

  -- Where the disks agree, the line was told, and this is what it left.
  abbrev pub HasEnded : WorkView → Type 0
  HasEnded work = run.coherent
      → HasLeft run.coherent run.opening run.bytes run.script seen work.line (left_of work)
