use Rattle.oz_world.specs.Disk.{seen}
use Rattle.oz_nodes_loaded.proofs.Saying.{scm_says}
use Rattle.oz_nodes_loaded.proofs.order.load_scm.Goals as goal

pub returns-in-Err-clause-says : goal.returns-in-Err-clause-says
returns-in-Err-clause-says g c =
    let see = (λ (d : g.row.D.Denot). seen (g.D.Disk.told d) (g.D.Disk.clock d) (g.D.Disk.image d) (g.D.Disk.faults d)) in
    let this = c.in-Err.ensures in record {
      fault_of = c.in-Err.fault;
      is = c.of_scm.ensures;
      says = scm_says c.args.given c.in-Err.fault (see c.args.disk) (see c.in-Err.disk) this.damaged this.other this.disk this.contents;
    }
