use Rattle.oz_world.specs.Disk.{seen}
use Rattle.oz_nodes_loaded.specs.store_opening.laws.One.{one_manager, one_scm}
use Rattle.oz_nodes_loaded.specs.store_opening.laws.Same.{loads_say_the_same}
use Rattle.oz_nodes_loaded.proofs.store_opening.laws.disks_have_one_opening.Goals as goal

pub returns-clause-manager : goal.returns-clause-manager
returns-clause-manager g c = λ bytes bodies others unseated other journal this also that.
    let one = c.a_disk_loads_as_one_thing.ensures.one bytes bodies others unseated other journal this also that in
    one_manager bodies others unseated other this that one.0 one.1

pub returns-clause-scm : goal.returns-clause-scm
returns-clause-scm g c = λ given disk scm other told from also.
    one_scm (λ (d : g.row.D.Denot). seen (g.D.Disk.told d) (g.D.Disk.clock d) (g.D.Disk.image d) (g.D.Disk.faults d)) c.a_disk_stands_for_one_thing.ensures.one_thing given disk scm other told from also

pub returns-clause-nodes : goal.returns-clause-nodes
returns-clause-nodes g c = λ all nodes others unseated namespace made tell are also.
    loads_say_the_same (λ (d : g.row.D.Denot). seen (g.D.Disk.told d) (g.D.Disk.clock d) (g.D.Disk.image d) (g.D.Disk.faults d)) c.a_disk_stands_for_one_node.ensures.one_node all nodes others unseated namespace made tell are also
