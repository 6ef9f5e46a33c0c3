use Rattle.std.proofs.Common.{◌≡◌, ◌+◌, ◌≤◌, ◌++◌, length, map, reverse, vec_capacity}
use Rattle.oz_nodes_loaded.specs.Loads.{disks_in}
use Rattle.oz_nodes_loaded.proofs.loaded.put_back.Given as goal

-- the datanodes that are left, and behind them the disks that are back
abbrev pub invariant-loop-node : goal.invariant-loop-node
invariant-loop-node g l = record {
  parts : map disks_in l.nodes.items ++ reverse l.disks.items ≡ map disks_in l.fn.nodes.items ++ reverse l.fn.behind.items;
  room : length l.nodes.items + length l.disks.items ≤ vec_capacity l.disks;
}

abbrev pub decreases-loop-node : goal.decreases-loop-node
decreases-loop-node g l = length l.nodes.items
