-- When a flusher may be called, and may be called again.
use Rattle.std.specs.Prelude.{◌≡◌, ℕ, ◌≤◌, Bool, false, List, ◌++◌, Option, None, IfSome}
use Rattle.oz_core.specs.declared.event.Event.{Event}
use Rattle.oz_core.specs.declared.event.Node.TheVariants.{Manager}
use Rattle.oz_core.specs.declared.opening.Opening.{Opening}
use Rattle.oz_core.specs.Manager.{swapped_index, durable_index, flushed_moment, halt_of}
use Rattle.oz_core.specs.Seats.{flusher_seat}
use Rattle.oz_flusher.specs.Taken.{bodies_of}
use Rattle.oz_journal.specs.Grammar.{IsJournal}
use Rattle.oz_turn.specs.Ring.{TurnId}
use Rattle.oz_turn.specs.Seat.{mine_of, seen_of, IsReady}
use Rattle.oz_turn.specs.declared.seat.Seat.{Seat}
use Rattle.oz_turn.specs.declared.told.Told.{Ghosts}

-- by its own events: what it took is flushed, and the manager hasn't halted
pub record IsSettled (opening : Opening) (mine : List Event) : Type 0 where
  pub all_flushed : swapped_index opening mine ≡ durable_index opening mine
  pub unhalted : halt_of Manager mine ≡ None

-- Besides, what it flushed was so by now, and the journal has the bodies that were loaded and then those that the story
-- took.
pub record IsQuiet (opening : Opening) (loaded : List (List ℕ)) (seen mine : List Event) (told : Option (List ℕ))
    (clock : ℕ) : Type 0 where
  pub settled : IsSettled opening mine
  pub by_now : IfSome (flushed_moment mine) (λ moment. moment ≤ clock)
  pub journal : IfSome told (λ bytes. IsJournal bytes (loaded ++ bodies_of seen))

-- A flusher between two calls, and its seat of the turn. What is known of the story is kept where the opening is coherent.
pub record IsIdle {T : Type 0} {ghosts : Ghosts T Event} (turn : TurnId) (Coherent : Type 0) (opening : Opening)
    (loaded : List (List ℕ)) (told : Option (List ℕ)) (clock : ℕ) (stopped : Bool) (seat : Seat T Event ghosts)
    : Type 0 where
  pub ready : IsReady turn flusher_seat seat
  pub running : stopped ≡ false
  pub quiet : Coherent → IsQuiet opening loaded (seen_of seat) (mine_of seat) told clock
