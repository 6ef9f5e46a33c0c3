use Rattle.std.proofs.Common.{◌≡◌, take, All}
use Rattle.std.specs.List.{list_any}
use Rattle.oz_datanode.specs.Datanode.{is_halted}
use Rattle.oz_running.specs.disk_run.Reopens.{NodeReopens}
use Rattle.oz_world.specs.Disk.{seen}
use Rattle.oz_running.proofs.disk_run.over.has_halted.Given as goal

abbrev pub invariant-loop-node : goal.invariant-loop-node
invariant-loop-node g l = record {
  halted : l.any ≡ list_any is_halted (take l.node-index l.nodes);
  reopen : All (NodeReopens (λ (d : g.row.D.Denot). seen (g.D.Disk.told d) (g.D.Disk.clock d) (g.D.Disk.image d) (g.D.Disk.faults d))) (take l.node-index l.nodes);
}
