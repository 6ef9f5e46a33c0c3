use Rattle.std.proofs.Common.{◌≡◌, ◌≤◌, None, cond, take}
use Rattle.oz_fields.specs.declared.block.Block.{Block}
use Rattle.oz_reclaim.specs.sweep.Homes.{home_of, is_left}
use Rattle.oz_reclaim.proofs.sweep.homes.leave_homes.Given as goal

abbrev pub invariant-loop-change : goal.invariant-loop-change
invariant-loop-change l = record {
  keys : (block : Block) → home_of l.homes.keys.entries block ≡ cond (is_left l.dead.rows (take l.change-index l.changes) block) None (home_of l.fn.homes.keys.entries block);
  spare : l.fn.homes.keys.spare ≤ l.homes.keys.spare;
  shared : l.homes.is_shared ≡ l.fn.homes.is_shared;
}
