-- What the flusher appends, and what is known of the story then.
use Rattle.std.specs.Prelude.{◌≡◌, ◌≢◌, ℕ, List, [], ◌∷◌, ◌++◌}
use Rattle.oz_buffer.specs.Buffer.{buffer_of}
use Rattle.oz_core.specs.declared.event.Event.{Event}
use Rattle.oz_core.specs.declared.event.EventKind.{EventKind}
use Rattle.oz_core.specs.declared.event.EventKind.TheVariants.{Swap, Flushed, Halt}
use Rattle.oz_core.specs.declared.event.Node.TheVariants.{Manager}
use Rattle.oz_core.specs.declared.opening.Opening.{Opening}
use Rattle.oz_core.specs.Manager.{last_index}
use Rattle.oz_core.specs.Seats.{flusher_seat}
use Rattle.oz_turn.specs.Told.{BeginsWith}

abbrev pub by_flusher : EventKind → Event
by_flusher kind = record { seat = flusher_seat; kind = kind }

abbrev pub swap_event : ℕ → Event
swap_event index = by_flusher (Swap index)

abbrev pub flushed_event : ℕ → ℕ → Event
flushed_event index moment = by_flusher (Flushed index moment)

abbrev pub halt_event : ℕ → Event
halt_event count = by_flusher (Halt Manager count)

-- For private calls.

-- The story went on to a place, where something was decided and not taken, and a Swap took that.
pub record IsSwapped (opening : Opening) (index : ℕ) (seen mine seen_after mine_after : List Event) (ready : List ℕ)
    : Type 0 where
  pub before : List Event
  pub begins : BeginsWith before seen
  pub some : buffer_of before ≢ []
  pub last : index ≡ last_index opening before
  pub story : seen_after ≡ before ++ swap_event index ∷ []
  pub given : mine_after ≡ mine ++ swap_event index ∷ []
  pub taken : ready ≡ buffer_of before

-- the story went on by others' events, and one event was appended
pub record IsNoted (event : Event) (seen mine seen_after mine_after : List Event) : Type 0 where
  pub more : List Event
  pub story : seen_after ≡ (seen ++ more) ++ event ∷ []
  pub given : mine_after ≡ mine ++ event ∷ []
