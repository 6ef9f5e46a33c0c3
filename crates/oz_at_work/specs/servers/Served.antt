-- What datanodes and their seats leave.
use Rattle.std.specs.Prelude.{◌≡◌, ℕ, List, length, Some, slice_get}
use Rattle.oz_core.specs.declared.event.Event.{Event}
use Rattle.oz_core.specs.Seats.{datanode_seat}
use Rattle.oz_datanode.specs.Datanode.{State as Datanode}
use Rattle.oz_node_events.specs.NodeSeat.{SeatView}
use Rattle.oz_replicas.specs.Cells.{IsAtRest}
use Rattle.oz_turn.specs.declared.seat.Seat.{Seat}
use Rattle.oz_turn.specs.declared.told.Told.{Ghosts}
use Rattle.oz_turn.specs.Ring.{TurnId}
use Rattle.oz_turn.specs.Seat.{IsReady, mine_of, seen_of}

-- of the turn; what holds of each datanode's seat; and for which datanodes it stands
module _ {D T : Type 0} {told : Ghosts T Event} (turn : TurnId) (Kept : SeatView → Type 0)
    (Stands : SeatView → Datanode D → Type 0) where
  -- A datanode of this number and its seat, which doesn't hold the value. It stands for the datanode by what it has seen and
  -- given.
  pub record IsServed (dn : ℕ) (node : Datanode D) (s : Seat T Event told) : Type 0 where
    pub ready : IsReady turn (datanode_seat dn) s
    pub view : SeatView
    pub number : view.dn ≡ dn
    pub seen : view.seen ≡ seen_of s
    pub mine : view.mine ≡ mine_of s
    pub kept : Kept view
    pub rests : IsAtRest Stands node view

  -- each at the place of its number
  pub record AreServed (nodes : List (Datanode D)) (seats : List (Seat T Event told)) : Type 0 where
    pub count : length seats ≡ length nodes
    pub each : (dn : ℕ) (node : Datanode D) (s : Seat T Event told) → slice_get nodes dn ≡ Some node
        → slice_get seats dn ≡ Some s → IsServed dn node s
