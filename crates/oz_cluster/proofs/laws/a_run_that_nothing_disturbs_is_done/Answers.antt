use Rattle.oz_world.specs.Disk.{seen}
use Rattle.oz_world.specs.Faults.{Rose}
use Rattle.oz_cluster.proofs.Quiet.{quiet_is_done}
use Rattle.oz_cluster.proofs.laws.a_run_that_nothing_disturbs_is_done.Goals as goal

pub returns : goal.returns
returns g c words text before after source source_after sink sink_after status causes run script loads calm quiet well =
    quiet_is_done (λ d. seen (g.D.Disk.told d) (g.D.Disk.clock d) (g.D.Disk.image d) (g.D.Disk.faults d)) c.a_disk_loads_as_one_thing.ensures.one c.a_disk_loads_as_one_thing.ensures.not_both
    c.what_loads_is_not_refused.ensures before after loads c.words_of_a_run_have_no_fault.ensures words text (Rose source source_after) (Rose sink sink_after) status causes run script calm quiet well
