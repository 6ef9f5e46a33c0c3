-- What a datanode that runs tells.
use Rattle.std.proofs.Common.{◌≡◌, ℕ, ◌+◌, ◌-◌, ◌^◌, min, Bool, true, false, cond, ◌||◌, None, Some, refl}
use Rattle.oz_block.specs.Blocks.{State as Blocks}
use Rattle.oz_block.specs.shelf.Shelf.{ShelfView}
use Rattle.oz_datanode.specs.Datanode.{State, Runs, is_halted, count_of}

parts : (a b stopped : Bool) (count : ℕ) → cond (a || b) (Some count) (cond stopped (Some 0) None) ≡ None → (a ≡ false) × (b ≡ false) × (stopped ≡ false)
parts true b stopped count is = absurd cc
parts false true stopped count is = absurd cc
parts false false true count is = absurd cc
parts false false false count is = (refl, refl, refl)

neither : (a b : Bool) → a ≡ false → b ≡ false → (a || b) ≡ false
neither true b one other = absurd cc
neither false true one other = absurd cc
neither false false one other = refl

-- neither a disk nor a line has stopped it
pub record IsRunning {D : Type 0} (state : State D) : Type 0 where
  pub journal : state.blocks.stopped ≡ false
  pub slots : state.shelf.failed ≡ false
  pub line : state.stopped ≡ false
  pub disks : is_halted state ≡ false

pub is_running : {D : Type 0} (faults : D → ℕ) (state : State D) → Runs faults state → IsRunning state
is_running faults state runs =
    let all = parts state.blocks.stopped state.shelf.failed state.stopped (count_of faults state) runs in record {
      journal = all.0;
      slots = all.1;
      line = all.2;
      disks = neither state.blocks.stopped state.shelf.failed all.0 all.1;
    }

back : (a b stopped : Bool) (count : ℕ) → a ≡ false → b ≡ false → stopped ≡ false → cond (a || b) (Some count) (cond stopped (Some 0) None) ≡ None
back true b stopped count one two three = absurd cc
back false true stopped count one two three = absurd cc
back false false true count one two three = absurd cc
back false false false count one two three = refl

pub runs_still : {D : Type 0} (faults : D → ℕ) (id : ℕ) (blocks : Blocks D) (shelf : ShelfView D) (stopped : Bool) → blocks.stopped ≡ false → shelf.failed ≡ false → stopped ≡ false → Runs faults (record { id = id; blocks = blocks; shelf = shelf; stopped = stopped })
runs_still faults id blocks shelf stopped = back blocks.stopped shelf.failed stopped (min (faults blocks.disk + faults shelf.slots.disk) (2 ^ 64 - 1))
