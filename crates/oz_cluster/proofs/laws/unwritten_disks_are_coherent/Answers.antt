use Rattle.oz_world.specs.Disk.{seen}
use Rattle.oz_cluster.proofs.Unwritten.{unwritten_coherent}
use Rattle.oz_cluster.proofs.laws.unwritten_disks_are_coherent.Goals as goal

pub returns : goal.returns
returns g c script before after any_halted story is_done bare store =
    unwritten_coherent (λ (d : g.row.D.Denot). seen (g.D.Disk.told d) (g.D.Disk.clock d) (g.D.Disk.image d) (g.D.Disk.faults d)) c.unwritten_disks_are_a_store.ensures c.all_disks_are_a_store.ensures.only
    before bare store.nodes.datanodes store.nodes_loaded store.over.unseated store.over.bodies store.over.loaded store.over.journal store.nodes.scm.made store.scm_loaded.stands
