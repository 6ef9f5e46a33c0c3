use Rattle.std.proofs.Common.{◌≡◌, ◌≤◌, None, cond, take}
use Rattle.std.specs.List.{list_any}
use Rattle.oz_fields.specs.declared.block.Block.{Block}
use Rattle.oz_reclaim.specs.sweep.Homes.{home_of}
use Rattle.oz_rows.specs.RowMaps.{is_block}
use Rattle.oz_reclaim.proofs.sweep.homes.leave_row.Given as goal

abbrev pub invariant-loop-block : goal.invariant-loop-block
invariant-loop-block l = record {
  keys : (block : Block) → home_of l.keys.entries block ≡ cond (list_any (is_block block) (take l.block-index l.blocks)) None (home_of l.fn.keys.entries block);
  spare : l.fn.keys.spare ≤ l.keys.spare;
}
