-- The storage container manager and all datanodes of a run, all of whose locks are held.
use Rattle.std.specs.Prelude.{◌≡◌, ℕ, List, [], ◌∷◌, ◌++◌, Option, Some, None, length, map, slice_get}
use Rattle.oz_asker.specs.declared.telling.still.Still.{Still}
use Rattle.oz_asker.specs.declared.telling.still.Still.TheVariants.{Seat}
use Rattle.oz_buffer.specs.declared.opened.Opened.{Ghosts as Run}
use Rattle.oz_core.specs.declared.event.Event.{Event}
use Rattle.oz_core.specs.Seats.{datanode_seat, flusher_seat, scm_seat}
use Rattle.oz_node_events.specs.NodeSeat.{IsKept, SeatView, StandsFor}
use Rattle.oz_replicas.specs.Cells.{CellView}
use Rattle.oz_scm_events.specs.Kept.{ScmView}
use Rattle.oz_turn.specs.Told.{own_entries}
use Rattle.oz_world.specs.declared.disk.Disk.{Ghosts as Disk}

-- the storage container manager, and the datanodes in the order of their numbers, each with its seat
pub record AllView (D : Type 0) : Type 0 where
  pub scm : ScmView D
  pub nodes : List (CellView D SeatView)

-- a datanode once its seat has seen this story, and all of them once each seat has: nothing else is different
abbrev pub node_shown : {D : Type 0} → List Event → CellView D SeatView → CellView D SeatView
node_shown story cell = record cell { kept = record cell.kept { seen = story } }

abbrev pub all_shown : {D : Type 0} → List Event → AllView D → AllView D
all_shown story all = record { scm = record all.scm { seen = story }; nodes = map (node_shown story) all.nodes }

module _ {D O : Type 0} (disk : Disk D) (run : Run O) (story : List Event) where
  -- The datanode has this number. Its seat has seen the story to its end, and stands for the datanode by it.
  pub record IsShown (dn : ℕ) (cell : CellView D SeatView) : Type 0 where
    pub number : cell.kept.dn ≡ dn
    pub seen : cell.kept.seen ≡ story
    pub kept : IsKept run.coherent run.opening run.bytes run.script cell.kept
    pub stands : StandsFor disk.told disk.clock disk.image disk.faults run.coherent run.opening run.bytes run.script run.faults
        cell.kept cell.node

  -- All seats have seen the one story to its end, so each knows all of its own events there, and there is one for each datanode
  -- that the run has opened.
  pub record KnowOneStory (all : AllView D) : Type 0 where
    pub scm : all.scm.seen ≡ story
    pub of_the_scm : own_entries (λ (event : Event). event.seat) scm_seat story ≡ all.scm.mine
    pub count : length all.nodes ≡ length run.opening.nodes
    pub nodes : (dn : ℕ) (cell : CellView D SeatView) → slice_get all.nodes dn ≡ Some cell → IsShown dn cell

-- No seat that this speaks of gives an event behind so many: the flusher's, if it is named, behind a place of its own; that of the
-- storage container manager; and that of each datanode.
abbrev pub flusher_still : Option ℕ → List Still
flusher_still None = []
flusher_still (Some place) = Seat flusher_seat place ∷ []

abbrev pub node_still : {D : Type 0} → ℕ → CellView D SeatView → Still
node_still place cell = Seat (datanode_seat cell.node.id) place

abbrev pub all_still : {D : Type 0} → Option ℕ → ℕ → AllView D → List Still
all_still flusher place all = flusher_still flusher ++ Seat scm_seat place ∷ map (node_still place) all.nodes
