use Rattle.oz_world.specs.Disk.{seen}
use Rattle.oz_nodes_loaded.proofs.Saying.{says}
use Rattle.oz_nodes_loaded.proofs.order.load_one.Goals as goal

pub returns-in-Err-clause-says : goal.returns-in-Err-clause-says
returns-in-Err-clause-says g c =
    let this = c.in-Err.ensures in record {
      fault_of = c.in-Err.fault;
      is = c.of_node.ensures;
      says = says (λ (d : g.row.D.Denot). seen (g.D.Disk.told d) (g.D.Disk.clock d) (g.D.Disk.image d) (g.D.Disk.faults d)) c.args.disks c.in-Err.disks c.in-Err.fault this.journal this.past this.journal_stands this.journal_disk this.slots_disk this.slots_untouched;
    }
