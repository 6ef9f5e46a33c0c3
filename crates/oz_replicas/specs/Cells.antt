-- A datanode, and a value that stands for it.
use Rattle.std.specs.Prelude.{◌≡◌, ℕ, List, Some, slice_get}
use Rattle.oz_datanode.specs.Datanode.{State}
use Rattle.oz_replicas.specs.Stays.{IsIdle}

pub record CellView (D K : Type 0) : Type 0 where
  pub node : State D
  pub kept : K

-- Nothing is half written, and the value stands for the datanode.
pub record IsAtRest {D K : Type 0} (stands : K → State D → Type 0) (node : State D) (kept : K) : Type 0 where
  pub idle : IsIdle node
  pub stood : stands kept node

-- the datanode in each place has the number of the place
abbrev pub AreInOrder : {D K : Type 0} → List (CellView D K) → Type 0
AreInOrder {D} {K} cells = (place : ℕ) (cell : CellView D K) → slice_get cells place ≡ Some cell → cell.node.id ≡ place
