-- What is asked of the seat of a line's worker, and how it is left.
use Rattle.std.specs.Prelude.{◌≡◌, ℕ, []}
use Rattle.oz_buffer.specs.declared.opened.Opened.{Ghosts as Run}
use Rattle.oz_buffer.specs.Buffer.{AllFollow, Follows}
use Rattle.oz_core.specs.declared.event.Event.{Event}
use Rattle.oz_turn.specs.declared.seat.Seat.{Seat}
use Rattle.oz_turn.specs.declared.told.Told.{Ghosts as Tells}
use Rattle.oz_turn.specs.Ring.{TurnId}
use Rattle.oz_turn.specs.Seat.{IsReady, mine_of, room_of, seen_of}
use Rattle.oz_turn.specs.Told.{BeginsWith}

module _ {T : Type 0} {told : Tells T Event} where
  -- The turn is the run's, and the seat is the one of it with this number, and doesn't hold the ledger.
  pub record MayTake (ring now : TurnId) (by : ℕ) (seat : Seat T Event told) : Type 0 where
    pub turn : now ≡ ring
    pub ready : IsReady ring by seat

  -- It is free again, with its room. It has seen what it had seen, or more, and gave nothing.
  pub record OnlyLooked (ring : TurnId) (by : ℕ) (old new : Seat T Event told) : Type 0 where
    pub ready : IsReady ring by new
    pub room : room_of new ≡ room_of old
    pub goes_on : BeginsWith (seen_of new) (seen_of old)
    pub mine : mine_of new ≡ mine_of old

  -- So it is, and what it has seen is a story of the run.
  pub record SawStory {O : Type 0} (run : Run O) (ring : TurnId) (by : ℕ) (old new : Seat T Event told) : Type 0 where
    pub ready : IsReady ring by new
    pub room : room_of new ≡ room_of old
    pub goes_on : BeginsWith (seen_of new) (seen_of old)
    pub mine : mine_of new ≡ mine_of old
    pub follow : AllFollow (Follows run.coherent run.opening run.bytes run.script) [] (seen_of new)

  -- The same of one that may have told something.
  pub record MayHaveTold {O : Type 0} (run : Run O) (ring : TurnId) (by : ℕ) (old new : Seat T Event told) : Type 0 where
    pub ready : IsReady ring by new
    pub room : room_of new ≡ room_of old
    pub goes_on : BeginsWith (seen_of new) (seen_of old)
    pub follow : AllFollow (Follows run.coherent run.opening run.bytes run.script) [] (seen_of new)
