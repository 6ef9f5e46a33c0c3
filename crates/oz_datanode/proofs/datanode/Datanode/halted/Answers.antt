use Rattle.std.proofs.Common.{sym, ◌∙◌}
use Rattle.std.proofs.lemmas.Bool.{or_from}
use Rattle.oz_datanode.proofs.Calls.{read_holds}
use Rattle.oz_datanode.proofs.datanode.Datanode.halted.Goals as goal

pub returns-else-stopped-clause-pairs : goal.returns-else-stopped-clause-pairs
returns-else-stopped-clause-pairs g c is =
    let off = sym c.stopped.ensures.stopped ∙ c.if-stopped.false in
    let on = sym c.failed.ensures ∙ is in
    rw (← c.self.view_is) (λ contents read. read_holds g.D.Disk.told g.D.Disk.clock g.D.Disk.image g.D.Disk.faults contents (record { id = c.self.inside.id; blocks = c.self.inside.blocks; shelf = c.self.inside.shelf; stopped = c.self.inside.stopped }) c.a_disk_stands_for_one_node.ensures.one_node (c.stopped.ensures.at_rest off) (c.self.invariant (or_from c.self.inside.blocks.stopped c.self.inside.shelf.failed off on)) read)
