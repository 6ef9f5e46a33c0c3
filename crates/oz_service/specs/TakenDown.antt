-- What taking datanodes for down that have halted does, under all locks.
use Rattle.std.specs.Prelude.{◌≡◌, ℕ, Bool, true, false, ◌&&◌, List, ◌++◌, map, filter, Some, slice_get}
use Rattle.std.specs.List.{AllZip}
use Rattle.oz_core.specs.declared.event.Event.{Event}
use Rattle.oz_core.specs.declared.event.EventKind.TheVariants.{Down}
use Rattle.oz_core.specs.Scm.{is_up}
use Rattle.oz_datanode.specs.Datanode.{State, is_halted}
use Rattle.oz_node_events.specs.NodeSeat.{SeatView}
use Rattle.oz_replicas.specs.Cells.{CellView}
use Rattle.oz_scm_events.specs.Granted.{by_scm}
use Rattle.oz_scm_events.specs.Kept.{ScmView}
use Rattle.oz_turn.specs.Told.{BeginsWith}
use Rattle.oz_service.specs.AllLocked.{AllView, node_shown}

-- a datanode has halted and is up, by the events that the storage container manager gave; and the numbers of those that are so
abbrev pub is_left_up : {D : Type 0} → List Event → State D → Bool
is_left_up by_manager node = is_halted node && is_up node.id by_manager

abbrev pub left_up : {D : Type 0} → List Event → List (CellView D SeatView) → List ℕ
left_up {D} by_manager cells =
    map (λ (node : State D). node.id) (filter (is_left_up by_manager) (map (λ (cell : CellView D SeatView). cell.node) cells))

-- each datanode that has halted is down
abbrev pub HaltedAreDown : {D : Type 0} → AllView D → Type 0
HaltedAreDown {D} all =
    (place : ℕ) (cell : CellView D SeatView) → slice_get all.nodes place ≡ Some cell → is_halted cell.node ≡ true
    → is_up cell.node.id all.scm.mine ≡ false

abbrev pub down_event : ℕ → Event
down_event dn = by_scm (Down dn)

-- The storage container manager gave a Down of each of these datanodes, in this order, and nothing else. It is as it was but for
-- who is up.
pub record ToldDowns {D : Type 0} (downs : List ℕ) (old new : ScmView D) : Type 0 where
  pub mine : new.mine ≡ old.mine ++ map down_event downs
  pub scm : new.scm ≡ record old.scm { up = new.scm.up }
  pub room : new.room ≡ old.room
  pub begins : BeginsWith new.seen old.seen

-- A datanode's seat has seen what it had seen, or more. Nothing else is different.
pub record HasSeenMore {D : Type 0} (old new : CellView D SeatView) : Type 0 where
  pub same : new ≡ node_shown new.kept.seen old
  pub begins : BeginsWith new.kept.seen old.kept.seen

-- Of the datanodes that had halted and were up the first so many were told to be down, and the rest not.
pub record OnlyTookDown {D : Type 0} (old new : AllView D) : Type 0 where
  pub downs : List ℕ
  pub rest : List ℕ
  pub parts : left_up old.scm.mine old.nodes ≡ downs ++ rest
  pub scm : ToldDowns downs old.scm new.scm
  pub nodes : AllZip HasSeenMore old.nodes new.nodes
