use Rattle.std.proofs.Common.{Bool, cond, false, ltb, refl, sym, ap, subst, ◌∙◌}
use Rattle.std.proofs.lemmas.Bool.{false≢true}
use Rattle.oz_block.specs.Blocks.{node_in as node_in_blocks}
use Rattle.oz_entries.specs.declared.entry.Entry.TheVariants as entries
use Rattle.oz_entries.specs.Node.{Node, is_in, after_entry}
use Rattle.oz_entries.specs.laws.Drops.{unheld_drops}
use Rattle.oz_block.specs.shelf.Shelf.{Rests}
use Rattle.oz_world.specs.Disk.{seen}
use Rattle.oz_datanode.specs.Steps.{is_in_use}
use Rattle.oz_datanode.proofs.Gone.{rests_freed, left_in_use, none_freed}
use Rattle.oz_datanode.proofs.Journaling.{journal_holds, fewer_rows}
use Rattle.oz_datanode.proofs.RunningParts.{is_running}
use Rattle.oz_datanode.proofs.datanode.Datanode.drop_container.Goals as goal

pub drop_container-requires : goal.drop_container-requires
drop_container-requires g c =
    let none = rw (← c.self.view_is) at c.requires in
    unheld_drops c.args.container (node_in_blocks c.self.inside.blocks) c.uses_slots_of_rows.ensures.sound c.ranges.container.fits none

pub invariant_of-self : goal.invariant_of-self
invariant_of-self g c = λ going.
    let runs = rw (← c.self.view_is) at (is_running g.D.Disk.faults c.args.self.now c.in_ok-check_running.ensures.running) in
    let none = rw (← c.self.view_is) at c.requires in
    let node = node_in_blocks c.self.inside.blocks in
    let shelf = c.self.inside.shelf in
    let disk = seen (g.D.Disk.told shelf.slots.disk) (g.D.Disk.clock shelf.slots.disk) (g.D.Disk.image shelf.slots.disk) (g.D.Disk.faults shelf.slots.disk) in
    subst (λ (n : Node). Rests (is_in_use n) shelf disk) (sym c.in-Ok.ensures.made)
    (rests_freed (is_in_use node) (is_in_use (after_entry (entries.Drop c.args.container) node)) (λ slot. false) shelf shelf disk
    (λ slot. left_in_use (is_in c.args.container) (node.users slot) (ltb slot 16384) ∙ ap (λ (b : Bool). cond b false (is_in_use node slot)) (none_freed c.args.container node c.uses_slots_of_rows.ensures.sound c.uses_slots_of_rows.ensures.within none slot))
    (λ slot is. absurd (false≢true is)) (λ slot. refl) refl (c.self.invariant runs.disks))

pub returns-in-Ok-clause-pairs : goal.returns-in-Ok-clause-pairs
returns-in-Ok-clause-pairs g c = rw (← c.self.view_is) (λ contents holds.
    let runs = rw (← c.self.view_is) at (is_running g.D.Disk.faults c.args.self.now c.in_ok-check_running.ensures.running) in
    let at_rest = rw (← c.self.view_is) at c.in_ok-check_running.ensures.at_rest in
    journal_holds contents (entries.Drop c.args.container) _ _ _ _ _ _ c.in-Ok.ensures runs.journal (λ block row is. fewer_rows (is_in c.args.container block) ((node_in_blocks c.self.inside.blocks).rows block) row is) c.a_disk_stands_for_one_node.ensures.one_node
    (λ bytes is. (at_rest runs.disks bytes is).0) (g.met.D.Disk.read_is_image c.self.inside.blocks.disk) holds)

pub returns-in-Err-clause-pairs : goal.returns-in-Err-clause-pairs
returns-in-Err-clause-pairs g c = rw (← c.self.view_is) (λ contents holds.
    let runs = rw (← c.self.view_is) at (is_running g.D.Disk.faults c.args.self.now c.in_ok-check_running.ensures.running) in
    let at_rest = rw (← c.self.view_is) at c.in_ok-check_running.ensures.at_rest in
    journal_holds contents (entries.Drop c.args.container) _ _ _ _ _ _ c.in-Err.ensures runs.journal (λ block row is. fewer_rows (is_in c.args.container block) ((node_in_blocks c.self.inside.blocks).rows block) row is) c.a_disk_stands_for_one_node.ensures.one_node
    (λ bytes is. (at_rest runs.disks bytes is).0) (g.met.D.Disk.read_is_image c.self.inside.blocks.disk) holds)
