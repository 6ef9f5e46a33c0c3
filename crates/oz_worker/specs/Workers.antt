-- Which seats are workers', and whom each worker serves.
use Rattle.std.specs.Prelude.{◌≡◌, ℕ, zero, suc, ◌%◌, ◌<◌, ◌≤◌, ◌==◌, List, [], ◌∷◌, ◌++◌, length, if◌then◌else◌}
use Rattle.oz_core.specs.declared.opening.Opening.{Opening}
use Rattle.oz_core.specs.Seats.{first_worker_seat}
use Rattle.oz_nodes.specs.declared.nodes.TheConstants.{FEWEST_NODES, MOST_NODES}

-- a worker's seat, and as many datanodes as were opened
pub record IsOfWorker (opening : Opening) (number nodes : ℕ) : Type 0 where
  pub worker : first_worker_seat ≤ number
  pub seated : number < 64
  pub least : FEWEST_NODES ≤ nodes
  pub most : nodes ≤ MOST_NODES
  pub opened : nodes ≡ length opening.nodes

-- What contracts see of a worker: its seat's number, and which of how many workers it is, from 0.
pub record WorkerView : Type 0 where
  pub number : ℕ
  pub place : ℕ
  pub workers : ℕ

-- The first so many clients are dealt out among the workers, one after another: those of the worker at this place.
abbrev pub clients_of : ℕ → ℕ → ℕ → List ℕ
clients_of workers place zero = []
clients_of workers place (suc count) =
    clients_of workers place count ++ (if count % workers == place then suc count ∷ [] else [])
