use Rattle.std.proofs.Common.{◌≡◌, ◌<◌, ℕ, Some, length, map, slice_get}
use Rattle.std.specs.Sync.Mutex.{mutex_guard_value}
use Rattle.oz_node_events.specs.NodeSeat.{SeatView}
use Rattle.oz_replicas.specs.Cells.{AreInOrder, CellView}
use Rattle.oz_service.specs.AllLocked.{IsShown, node_shown}
use Rattle.oz_service.proofs.Listed.{front}
use Rattle.oz_turn.specs.Seat.{IsSameSeat, seen_of, share_of, taken_of}
use Rattle.oz_service.proofs.all_locked.showing.show_nodes.Given as goal

-- the first so many are shown the story, and nothing else is different
abbrev pub invariant-loop-dn : goal.invariant-loop-dn
invariant-loop-dn g l = record {
  count : length l.nodes.items ≡ length l.fn.nodes.items;
  order : AreInOrder (map mutex_guard_value l.nodes.items);
  same : map mutex_guard_value l.nodes.items ≡ front (node_shown (seen_of l.fn.holder)) l.dn (map mutex_guard_value l.fn.nodes.items);
  shown : (dn : ℕ) (cell : CellView g.row.D.Denot SeatView) → dn < l.dn → slice_get (map mutex_guard_value l.nodes.items) dn ≡ Some cell
      → IsShown g.D.Disk g.O.Opened (seen_of l.fn.holder) dn cell;
  holder : IsSameSeat l.fn.holder l.holder;
  share : share_of l.holder ≡ share_of l.fn.holder;
  taken : taken_of l.holder ≡ taken_of l.fn.holder;
}
