-- What a look at a container under all locks shows of it.
use Rattle.std.specs.Prelude.{◌≡◌, ◌⊎◌, ◌↔◌, ℕ, ◌<◌, Bool, true, not, List, [], Some, None, Contains, length, slice_get}
use Rattle.oz_buffer.specs.Buffer.{AllFollow, Follows}
use Rattle.oz_buffer.specs.declared.opened.Opened.{Ghosts as Run}
use Rattle.oz_core.specs.declared.event.Event.{Event}
use Rattle.oz_core.specs.declared.event.Node.TheVariants.{Scm}
use Rattle.oz_core.specs.declared.opening.Opening.{Opening}
use Rattle.oz_core.specs.Coherent.{IsCoherent}
use Rattle.oz_core.specs.Manager.{halt_of}
use Rattle.oz_core.specs.Scm.{is_logged_at_opening, is_up}
use Rattle.oz_block.specs.Lists.{AreHeldIn}
use Rattle.oz_datanode.specs.Datanode.{State, node_in}
use Rattle.oz_datanode.specs.Writing.{is_open}
use Rattle.oz_dellog.specs.Log.{IsLogged, Log}
use Rattle.oz_node_events.specs.NodeSeat.{SeatView}
use Rattle.oz_repl.specs.declared.repl.view.View.{View}
use Rattle.oz_repl.specs.views.Away.{StaysAway}
use Rattle.oz_repl.specs.views.View.{IsViewOf, block_in}
use Rattle.oz_replicas.specs.Cells.{CellView}
use Rattle.oz_service.specs.AllLocked.{AllView, KnowOneStory}
use Rattle.oz_service.specs.TakenDown.{HaltedAreDown}
use Rattle.oz_world.specs.declared.disk.Disk.{Ghosts as Disk}

-- these are the local ids of the container's blocks that were to be deleted as the run began
abbrev pub AreOldDeletions : Opening → ℕ → List ℕ → Type 0
AreOldDeletions opening number locals =
    (local : ℕ) → Contains locals local ↔ (is_logged_at_opening opening (block_in number local) ≡ true)

-- what a datanode has of the container: whether its replica is closed, and the blocks that it holds
pub record HasOfIt {D : Type 0} (node : State D) (number : ℕ) (closed : Bool) (held : List ℕ) : Type 0 where
  pub replica : closed ≡ not (is_open ((node_in node).states number))
  pub blocks : AreHeldIn (node_in node) number held

-- whether a member is up, and what it has of the container
pub record IsMember {D : Type 0} (all : AllView D) (number dn : ℕ) (up closed : Bool) (held : List ℕ) : Type 0 where
  pub told : up ≡ is_up dn all.scm.mine
  pub has : (cell : CellView D SeatView) → slice_get all.nodes dn ≡ Some cell → HasOfIt cell.node number closed held

-- a block of the container is to be deleted: a transaction of the log names it, or it was to be as the run began
abbrev pub IsToGo : Log → List ℕ → ℕ → ℕ → Type 0
IsToGo log old number local = IsLogged log (block_in number local) ⊎ Contains old local

module _ {D O : Type 0} (disk : Disk D) (run : Run O) (story : List Event) where
  -- All seats were shown the story of a run whose disks agreed, in which the storage container manager didn't halt. The datanodes
  -- that halted are down, and none puts behind a Delete what that took away.
  pub record AreShown (all : AllView D) : Type 0 where
    pub know : KnowOneStory disk run story all
    pub coherent : run.coherent
    pub agree : IsCoherent run.opening run.bytes
    pub follow : AllFollow (Follows run.coherent run.opening run.bytes run.script) [] story
    pub unhalted : halt_of Scm story ≡ None
    pub down : HaltedAreDown all
    pub away : (dn : ℕ) → dn < length run.opening.nodes → StaysAway run.opening dn story

-- It is a view of the container, but that of members that are down it may show otherwise whether they closed their replica: of
-- these that decides nothing.
pub record IsSeenAs (opening : Opening) (story : List Event) (number : ℕ) (view : View) : Type 0 where
  pub closed : List Bool
  pub many : length view.closed ≡ length view.members
  pub is_view : IsViewOf opening story number (record view { closed = closed })
  pub same : (place : ℕ) → slice_get view.up place ≡ Some true → slice_get view.closed place ≡ slice_get closed place
