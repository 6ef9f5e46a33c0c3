use Rattle.std.proofs.Common.{◌≡◌, ◌+◌, ◌≤◌, length, vec_capacity}
use Rattle.oz_world.specs.Disk.{seen}
use Rattle.oz_nodes_loaded.proofs.Loading.{Loading}
use Rattle.oz_nodes_loaded.proofs.order.load_datanodes.Given as goal

abbrev pub invariant-loop-disks : goal.invariant-loop-disks
invariant-loop-disks g l = record {
  parts : Loading (λ (d : g.row.D.Denot). seen (g.D.Disk.told d) (g.D.Disk.clock d) (g.D.Disk.image d) (g.D.Disk.faults d)) l.fn.nodes.items l.behind.items l.loaded.items;
  count : length l.loaded.items + length l.behind.items ≡ length l.fn.nodes.items;
  behind_room : length l.fn.nodes.items ≤ vec_capacity l.behind;
  loaded_room : length l.fn.nodes.items ≤ vec_capacity l.loaded;
}

abbrev pub decreases-loop-disks : goal.decreases-loop-disks
decreases-loop-disks g l = length l.behind.items
