use Rattle.std.proofs.Common.{None}
use Rattle.oz_cluster.proofs.Quiet.{empty_opens}
use Rattle.oz_cluster.proofs.laws.an_empty_disk_opens_as_nothing.Goals as goal

pub returns : goal.returns
returns c bytes bodies unseated short journal this =
    empty_opens c.bodies_make_one_thing.ensures.one_table (c.an_empty_store_is_one.ensures.store (λ dn block. None)) bytes bodies unseated short journal this
