use Rattle.std.proofs.Common.{◌≡◌, ◌+◌, ◌≤◌, drop}
use Rattle.oz_block.specs.Blocks.{node_in}
use Rattle.oz_datanode.specs.Changing.{held_count}
use Rattle.oz_datanode.proofs.deleting.held_count.Given as goal

abbrev pub invariant-loop-i : goal.invariant-loop-i
invariant-loop-i g l = record {
  sum : l.count + held_count (node_in l.blocks) l.container (drop l.i l.locals) ≡ held_count (node_in l.blocks) l.container l.locals;
  small : l.count ≤ l.i;
}
