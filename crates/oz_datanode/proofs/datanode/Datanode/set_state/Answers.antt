use Rattle.std.proofs.Common.{sym, subst}
use Rattle.oz_entries.specs.declared.entry.Entry.TheVariants as entries
use Rattle.oz_entries.specs.Node.{Node}
use Rattle.oz_block.specs.shelf.Shelf.{Rests}
use Rattle.oz_world.specs.Disk.{seen}
use Rattle.oz_datanode.specs.Steps.{is_in_use}
use Rattle.oz_datanode.proofs.Journaling.{journal_holds}
use Rattle.oz_datanode.proofs.RunningParts.{is_running}
use Rattle.oz_datanode.proofs.datanode.Datanode.set_state.Goals as goal

pub invariant_of-self : goal.invariant_of-self
invariant_of-self g c = λ going.
    let runs = rw (← c.self.view_is) at (is_running g.D.Disk.faults c.args.self.now c.in_ok-check_running.ensures.running) in
    let shelf = c.self.inside.shelf in
    subst (λ (n : Node). Rests (is_in_use n) shelf (seen (g.D.Disk.told shelf.slots.disk) (g.D.Disk.clock shelf.slots.disk) (g.D.Disk.image shelf.slots.disk) (g.D.Disk.faults shelf.slots.disk)))
    (sym c.in-Ok.ensures.made) (c.self.invariant runs.disks)

pub returns-in-Ok-clause-pairs : goal.returns-in-Ok-clause-pairs
returns-in-Ok-clause-pairs g c = rw (← c.self.view_is) (λ contents holds.
    let runs = rw (← c.self.view_is) at (is_running g.D.Disk.faults c.args.self.now c.in_ok-check_running.ensures.running) in
    let at_rest = rw (← c.self.view_is) at c.in_ok-check_running.ensures.at_rest in
    journal_holds contents (entries.SetState c.args.container c.args.state) _ _ _ _ _ _ c.in-Ok.ensures runs.journal (λ block row is. is) c.a_disk_stands_for_one_node.ensures.one_node
    (λ bytes is. (at_rest runs.disks bytes is).0) (g.met.D.Disk.read_is_image c.self.inside.blocks.disk) holds)

pub returns-in-Err-clause-pairs : goal.returns-in-Err-clause-pairs
returns-in-Err-clause-pairs g c = rw (← c.self.view_is) (λ contents holds.
    let runs = rw (← c.self.view_is) at (is_running g.D.Disk.faults c.args.self.now c.in_ok-check_running.ensures.running) in
    let at_rest = rw (← c.self.view_is) at c.in_ok-check_running.ensures.at_rest in
    journal_holds contents (entries.SetState c.args.container c.args.state) _ _ _ _ _ _ c.in-Err.ensures runs.journal (λ block row is. is) c.a_disk_stands_for_one_node.ensures.one_node
    (λ bytes is. (at_rest runs.disks bytes is).0) (g.met.D.Disk.read_is_image c.self.inside.blocks.disk) holds)
