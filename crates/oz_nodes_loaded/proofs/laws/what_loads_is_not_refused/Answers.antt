use Rattle.oz_world.specs.Disk.{seen}
use Rattle.oz_nodes_loaded.proofs.Standing.{none_of_bytes}
use Rattle.oz_nodes_loaded.proofs.laws.what_loads_is_not_refused.Goals as goal

pub returns : goal.returns
returns g c greatest scm nodes scm_left nodes_left fault all so =
    let node = c.a_disk_stands_for_one_node.ensures in
    let thing = c.a_disk_stands_for_one_thing.ensures in
    none_of_bytes (λ (d : g.row.D.Denot). seen (g.D.Disk.told d) (g.D.Disk.clock d) (g.D.Disk.image d) (g.D.Disk.faults d)) node.one_node node.not_both c.what_loads_is_not_damaged.ensures.not_both thing.one_thing thing.one_number thing.not_both greatest scm nodes all scm_left nodes_left fault so
