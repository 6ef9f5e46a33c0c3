-- For private calls: what an asker's seat has seen once the stripe that refused it has shown it the story.
use Rattle.std.specs.Prelude.{◌≡◌, ℕ, []}
use Rattle.oz_buffer.specs.Buffer.{AllFollow, Follows}
use Rattle.oz_core.specs.declared.event.Event.{Event}
use Rattle.oz_core.specs.declared.opening.Opening.{Opening}
use Rattle.oz_core.specs.Contents.{OpeningBytes}
use Rattle.oz_script.specs.declared.lines.script.Script.{Script}
use Rattle.oz_turn.specs.declared.seat.Seat.{Seat}
use Rattle.oz_turn.specs.declared.told.Told.{Ghosts}
use Rattle.oz_turn.specs.Ring.{TurnId}
use Rattle.oz_turn.specs.Seat.{IsReady, mine_of, room_of, seen_of}
use Rattle.oz_turn.specs.Told.{BeginsWith}

-- The seat goes on as it was, and has seen a story that goes on from what it had seen; each event there may follow.
pub record HasSeen {T : Type 0} {told : Ghosts T Event} (turn : TurnId) (Coherent : Type 0) (opening : Opening)
    (bytes : OpeningBytes) (script : Script) (by : ℕ) (before after : Seat T Event told) : Type 0 where
  pub ready : IsReady turn by after
  pub room : room_of after ≡ room_of before
  pub mine : mine_of after ≡ mine_of before
  pub goes_on : BeginsWith (seen_of after) (seen_of before)
  pub follow : AllFollow (Follows Coherent opening bytes script) [] (seen_of after)
