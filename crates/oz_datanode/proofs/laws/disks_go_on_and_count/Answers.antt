use Rattle.std.proofs.Common.{refl}
use Rattle.oz_datanode.specs.laws.GoingOn.{disks_same, go_on_then, count_never_falls, count_rose}
use Rattle.oz_datanode.proofs.laws.disks_go_on_and_count.Goals as goal

pub returns-clause-same : goal.returns-clause-same
returns-clause-same g c node = disks_same g.D.Disk.told g.D.Disk.faults node node refl

pub returns-clause-joined : goal.returns-clause-joined
returns-clause-joined g c one two three first second = go_on_then g.D.Disk.told g.D.Disk.faults one two three first second

pub returns-clause-never_falls : goal.returns-clause-never_falls
returns-clause-never_falls g c old new goes = count_never_falls g.D.Disk.told g.D.Disk.faults old new goes

pub returns-clause-rises : goal.returns-clause-rises
returns-clause-rises g c old new goes risen = count_rose g.D.Disk.told g.D.Disk.faults old new goes risen
