-- When a datanode runs.
use Rattle.std.proofs.Common.{◌≡◌, ℕ, Bool, true, false, cond, Option, None, Some, refl, sym}
use Rattle.std.proofs.lemmas.Bool.{false≢true, or_parts}
use Rattle.oz_datanode.specs.Datanode.{State, is_halted, count_of, Runs}

-- it runs where neither a disk nor a line has stopped it
pub running : (halted stopped : Bool) (count : ℕ) → cond halted (Some count) (cond stopped (Some 0) None) ≡ None → (halted ≡ false) × (stopped ≡ false)
running true stopped count is = absurd (never is)
  where
    never : ◌≡◌ {A = Option ℕ} (Some count) None → ⊥
    never e = cc
running false true count is = absurd (never is)
  where
    never : ◌≡◌ {A = Option ℕ} (Some 0) None → ⊥
    never e = cc
running false false count is = (refl, refl)

from : (halted stopped : Bool) (count : ℕ) → halted ≡ false → stopped ≡ false → ◌≡◌ {A = Option ℕ} (cond halted (Some count) (cond stopped (Some 0) None)) None
from true stopped count whole on = absurd (false≢true (sym whole))
from false true count whole on = absurd (false≢true (sym on))
from false false count whole on = refl

module _ {D : Type 0} (faults : D → ℕ) where
  pub runs_parts : (node : State D) → Runs faults node → (is_halted node ≡ false) × (node.stopped ≡ false)
  runs_parts node runs = running (is_halted node) node.stopped _ runs

  pub runs_from : (node : State D) → is_halted node ≡ false → node.stopped ≡ false → Runs faults node
  runs_from node whole on = from (is_halted node) node.stopped (count_of faults node) whole on

  pub halted_parts : (node : State D) → is_halted node ≡ false → (node.blocks.stopped ≡ false) × (node.shelf.failed ≡ false)
  halted_parts node is = or_parts node.blocks.stopped node.shelf.failed is
