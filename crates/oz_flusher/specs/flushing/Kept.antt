-- What contracts see of a flusher with its seat, and what it keeps from one flush to the next.
use Rattle.std.specs.Prelude.{◌≡◌, ℕ, ◌≤◌, Bool, true, false, List, ◌++◌, Some, None, IfSome, IsSome}
use Rattle.std.specs.Prelude.{if◌then◌else◌}
use Rattle.oz_core.specs.declared.event.Event.{Event}
use Rattle.oz_core.specs.declared.event.Node.TheVariants.{Manager}
use Rattle.oz_core.specs.declared.opening.Opening.{Opening}
use Rattle.oz_core.specs.Manager.{swapped_index, durable_index, flushed_moment, halt_of}
use Rattle.oz_core.specs.Seats.{flusher_seat}
use Rattle.oz_flusher.specs.Stops.{StopsHold}
use Rattle.oz_flusher.specs.Taken.{bodies_of}
use Rattle.oz_journal.specs.Grammar.{IsJournal}
use Rattle.oz_turn.specs.Told.{own_entries}
use Rattle.oz_world.specs.Disk.{Seen, TellsAsBefore}
use Rattle.oz_world.specs.Faults.{Rose}
use Rattle.oz_world.specs.Moments.{Elapses}

-- The journal's disk, and whether a write of it has failed; what the seat has seen of the story, and the events that it
-- gave.
pub record FlushingView (D : Type 0) : Type 0 where
  pub disk : D
  pub stopped : Bool
  pub seen : List Event
  pub mine : List Event

-- that the disks agree; what was opened, with the bodies of the journal; and what was seen of its disk as the run began
module _ (Coherent : Type 0) (opening : Opening) (loaded : List (List ℕ)) (begun : Seen) where
  pub record IsKept (stopped : Bool) (seen mine : List Event) (disk : Seen) : Type 0 where
    -- The events that the seat gave are those of the flusher in the story.
    pub own : own_entries (λ (event : Event). event.seat) flusher_seat seen ≡ mine
    -- A Halt of the manager stands there exactly where a write has failed, with the count of faults, which rose.
    pub halt : halt_of Manager mine ≡ (if stopped then Some disk.faults else None)
    pub rose : stopped ≡ true → Rose begun.faults disk.faults
    pub no_fewer : begun.faults ≤ disk.faults
    -- What was taken is flushed, unless a write has failed, and what is flushed was so by now.
    pub all_flushed : stopped ≡ false → swapped_index opening mine ≡ durable_index opening mine
    pub by_now : IfSome (flushed_moment mine) (λ moment. moment ≤ disk.clock)
    -- It tells its contents if it did then, and the moments up to then keep what a stop leaves.
    pub telling : TellsAsBefore begun.told disk.told
    pub time : Elapses begun.clock disk.clock begun.image disk.image
    -- Unless a write has failed the journal has the bodies that were loaded, and then those that the story took. A stop
    -- leaves a prefix of them, with all that was flushed by then.
    pub journal : Coherent → stopped ≡ false → IfSome disk.told (λ bytes. IsJournal bytes (loaded ++ bodies_of seen))
    pub stops : Coherent → IsSome disk.told → StopsHold loaded seen begun.clock disk.clock disk.image
