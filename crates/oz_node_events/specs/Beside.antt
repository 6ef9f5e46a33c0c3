-- What a datanode's seat and the storage container manager's have told at one place of a story.
use Rattle.std.specs.Prelude.{◌≡◌, ℕ, List}
use Rattle.oz_core.specs.declared.event.Event.{Event}
use Rattle.oz_core.specs.Seats.{scm_seat}
use Rattle.oz_turn.specs.Told.{own_entries, BeginsWith}
use Rattle.oz_node_events.specs.NodeSeat.{events_of}

-- There is a place, since what was seen before and in the story, up to which both gave these events.
pub record ShareAPlace (Follow : List Event → Type 0) (dn : ℕ) (before mine of_scm story : List Event) : Type 0 where
  pub place : List Event
  pub since : BeginsWith place before
  pub within : BeginsWith story place
  pub its : events_of dn place ≡ mine
  pub of_the_scm : own_entries (λ (event : Event). event.seat) scm_seat place ≡ of_scm
  pub follow : Follow place
