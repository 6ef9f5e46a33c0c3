-- For private calls: an event that was appended.
use Rattle.std.specs.Prelude.{◌≡◌, ℕ, List, [], ◌∷◌, ◌++◌}
use Rattle.oz_buffer.specs.Buffer.{AllFollow}
use Rattle.oz_core.specs.declared.event.Event.{Event}
use Rattle.oz_core.specs.declared.event.EventKind.{EventKind}
use Rattle.oz_core.specs.Seats.{scm_seat}
use Rattle.oz_scm_events.specs.Granted.{by_scm}
use Rattle.oz_turn.specs.Told.{own_entries, BeginsWith}

-- The event stands last in what the seat has seen. The story before it goes on from what another seat had seen, by no event
-- of either.
pub record StandsLast (Follow : List Event → Event → Type 0) (other : ℕ) (other_seen other_mine mine seen : List Event)
    (kind : EventKind) : Type 0 where
  pub story : List Event
  pub last : seen ≡ story ++ by_scm kind ∷ []
  pub begins : BeginsWith story other_seen
  pub follow : AllFollow Follow [] story
  pub others : own_entries (λ (event : Event). event.seat) other story ≡ other_mine
  pub own : own_entries (λ (event : Event). event.seat) scm_seat story ≡ mine
