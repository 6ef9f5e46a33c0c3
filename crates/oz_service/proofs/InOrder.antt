-- Datanodes that are shown a story are in order.
use Rattle.std.proofs.Common.{◌≡◌, ℕ, List, Some, slice_get, ◌∙◌}
use Rattle.oz_buffer.specs.declared.opened.Opened.{Ghosts as Run}
use Rattle.oz_core.specs.declared.event.Event.{Event}
use Rattle.oz_node_events.specs.NodeSeat.{SeatView}
use Rattle.oz_replicas.specs.Cells.{AreInOrder, CellView}
use Rattle.oz_world.specs.declared.disk.Disk.{Ghosts as Disk}
use Rattle.oz_service.specs.AllLocked.{IsShown}

module _ {D O : Type 0} (disk : Disk D) (run : Run O) (story : List Event) where
  -- those that are shown are in order
  pub order_shown : (cells : List (CellView D SeatView)) → ((dn : ℕ) (cell : CellView D SeatView) → slice_get cells dn ≡ Some cell → IsShown disk run story dn cell)
      → AreInOrder cells
  order_shown cells shown place cell at = let it = shown place cell at in it.stands.number ∙ it.number
