-- For private calls: a stripe's parts, and the seat among them.
use Rattle.std.specs.Prelude.{◌≡◌, ℕ, List}
use Rattle.oz_turn.specs.Ring.{TurnId}
use Rattle.oz_turn.specs.Seat.{turn_of, number_of, mine_of, seen_of, room_of, taken_of}
use Rattle.oz_turn.specs.declared.told.Told.{Ghosts}
use Rattle.oz_turn.specs.declared.seat.Seat.{Seat}
use Rattle.oz_cache.specs.Cache.{CacheView}
use Rattle.oz_core.specs.declared.event.Event.{Event}
use Rattle.oz_core.specs.Seats.{stripe_seat}
use Rattle.oz_locks.specs.declared.pins.Pin.{Pin}
use Rattle.oz_locks.specs.declared.pool.FreeBlock.{FreeBlock}
use Rattle.oz_locks.specs.declared.reclaim.Reclaim.{Reclaim}
use Rattle.oz_locks.specs.Stripe.{StripeView}

module _ {T : Type 0} {told : Ghosts T Event} where
  -- a seat of the turn with the stripe's number, whether it holds the value or not
  pub record IsSeated (turn : TurnId) (stripe : ℕ) (s : Seat T Event told) : Type 0 where
    pub of_turn : turn_of s ≡ turn
    pub numbered : number_of s ≡ stripe_seat stripe

  abbrev pub seen_as : ℕ → CacheView → ℕ → List FreeBlock → ℕ → List Pin → ℕ → Reclaim → Seat T Event told → StripeView T
  seen_as number cache flushed pool known pins pin_room reclaim s = record {
    number = number;
    cache = cache;
    flushed = flushed;
    pool = pool;
    known = known;
    pins = pins;
    pin_room = pin_room;
    reclaim = reclaim;
    mine = mine_of s;
    seen = seen_of s;
    room = room_of s;
    taken = taken_of s;
  }
