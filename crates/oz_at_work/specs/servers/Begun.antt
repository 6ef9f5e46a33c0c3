-- What servers are made of: what was loaded, and stands for the opening of the run.
use Rattle.std.specs.Prelude.{◌≡◌, ℕ, ◌≤◌, true, false, List, [], length, map, replicate}
use Rattle.oz_core.specs.declared.opening.Opening.{Opening}
use Rattle.oz_datanode.specs.Datanode.{State as Datanode}
use Rattle.oz_node_events.specs.Led.{no_lines}
use Rattle.oz_node_events.specs.NodeSeat.{SeatView}
use Rattle.oz_nodes.specs.declared.nodes.TheConstants.{FEWEST_NODES, MOST_NODES}
use Rattle.oz_om.specs.Seated.{ArePlaced}
use Rattle.oz_replicas.specs.Cells.{CellView, IsAtRest}
use Rattle.oz_scm.specs.Scm.{State as Scm}
use Rattle.oz_scm.specs.grants.Made.{log_of}
use Rattle.oz_scm_events.specs.Kept.{AreContainers, IsLogOf}

-- The storage container manager runs, takes each datanode for up, and has what the opening says; its disk had failed so often
-- once it was loaded, and has failed so often now.
pub record ScmStands {D : Type 0} (opening : Opening) (loaded : ℕ) (scm : Scm D) (faults : ℕ) : Type 0 where
  pub running : scm.stopped ≡ false
  pub nodes : scm.made.nodes ≡ length opening.nodes
  pub next : scm.made.next_id ≡ opening.next_id
  pub containers : AreContainers scm.made.containers opening.containers
  pub up : scm.up ≡ replicate (length opening.nodes) true
  pub log : IsLogOf opening [] (log_of scm.made)
  pub no_fewer : loaded ≤ faults

-- what is seen of the seat of a datanode that has seen and given nothing
abbrev pub new_seat : ℕ → SeatView
new_seat dn = record { dn = dn; seen = []; mine = []; room = 0; last = no_lines }

-- There are as many datanodes as the opening has. For each a seat stands that has its number, and has seen and given nothing.
pub record NodesStand {D : Type 0} (Stands : SeatView → Datanode D → Type 0) (opening : Opening) (nodes : List (Datanode D))
    : Type 0 where
  pub count : length nodes ≡ length opening.nodes
  pub least : FEWEST_NODES ≤ length nodes
  pub most : length nodes ≤ MOST_NODES
  pub each : ArePlaced (λ dn node. IsAtRest Stands node (new_seat dn)) nodes

-- the datanodes themselves
abbrev pub nodes_of : {D K : Type 0} → List (CellView D K) → List (Datanode D)
nodes_of {D} {K} cells = map (λ (cell : CellView D K). cell.node) cells
