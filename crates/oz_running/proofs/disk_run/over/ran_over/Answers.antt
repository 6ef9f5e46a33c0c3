use Rattle.std.proofs.Common.{All, List, subst}
use Rattle.oz_datanode.specs.Datanode.{State as Datanode}
use Rattle.oz_running.specs.disk_run.Reopens.{NodeReopens}
use Rattle.oz_world.specs.Disk.{seen}
use Rattle.oz_running.proofs.disk_run.over.ran_over.Goals as goal

pub returns-clause-nodes_reopen : goal.returns-clause-nodes_reopen
returns-clause-nodes_reopen g c =
    let D = g.D.Disk in
    let see = (λ (d : g.row.D.Denot). seen (D.told d) (D.clock d) (D.image d) (D.faults d)) in
    subst (λ (l : List (Datanode g.row.D.Denot)). All (NodeReopens see) l) c.deref.ensures.value c.has_halted-node_halted.ensures.reopen
