-- What the log of deleted blocks is like as a run begins.
use Rattle.std.specs.Prelude.{◌≢◌, ◌≤◌, [], Contains, All, AllPairs}
use Rattle.oz_core.specs.declared.opening.Opening.{Opening}
use Rattle.oz_core.specs.declared.opening.Unretired.{Unretired}
use Rattle.oz_core.specs.Scm.{members}

-- No two transactions have one number, and none has one above the last. Each was acknowledged by members of its
-- container, once by each.
pub record LogIsOrdered (opening : Opening) : Type 0 where
  pub apart : AllPairs (λ (one other : Unretired). one.txn.number ≢ other.txn.number) opening.unretired
  pub old : (it : Unretired) → Contains opening.unretired it → it.txn.number ≤ opening.last_txn
  pub placed : (it : Unretired) → Contains opening.unretired it
      → All (Contains (members opening [] it.txn.container)) it.acknowledgers
  pub differ : (it : Unretired) → Contains opening.unretired it → AllPairs ◌≢◌ it.acknowledgers
