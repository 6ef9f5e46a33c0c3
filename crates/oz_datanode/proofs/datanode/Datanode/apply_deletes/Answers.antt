use Rattle.std.proofs.Common.{ℕ, Bool, List, cond, false, ltb, Ok, Err, refl, sym, ap, subst, ◌∙◌}
use Rattle.oz_block.specs.Blocks.{node_in as node_in_blocks}
use Rattle.oz_chunk.specs.Taken.{is_taken}
use Rattle.oz_entries.specs.declared.entry.Entry.TheVariants as entries
use Rattle.oz_entries.specs.Held.{is_freed}
use Rattle.oz_entries.specs.Node.{Node, names, names_held, after_entry}
use Rattle.oz_block.specs.shelf.Release.{is_one_of}
use Rattle.oz_block.specs.shelf.Shelf.{Rests}
use Rattle.oz_world.specs.Disk.{seen}
use Rattle.oz_datanode.specs.Steps.{is_in_use}
use Rattle.oz_datanode.proofs.Gone.{rests_freed, left_in_use}
use Rattle.oz_datanode.proofs.Named.{none_count, none_named, released, freed_in_use, handed, refused}
use Rattle.oz_datanode.proofs.Journaling.{journal_holds, fewer_rows}
use Rattle.oz_datanode.proofs.RunningParts.{is_running}
use Rattle.oz_datanode.proofs.datanode.Datanode.apply_deletes.Goals as goal

pub delete-requires : goal.delete-requires
delete-requires g c = (c.has_numbers.ensures.container, c.requires.number, c.has_numbers.ensures.number, c.requires.least, c.requires.most, c.has_numbers.ensures.locals, sym c.is_due.ensures ∙ c.if-not-is_due.false)

pub returns-then-not-is_due-clause-count : goal.returns-then-not-is_due-clause-count
returns-then-not-is_due-clause-count g c = rw (← c.self.view_is) (none_count (node_in_blocks c.self.inside.blocks) c.args.txn.now (sym c.is_due.ensures ∙ c.if-not-is_due.true))

pub invariant_of-self : goal.invariant_of-self
invariant_of-self g c = λ going.
    let runs = rw (← c.self.view_is) at (is_running g.D.Disk.faults c.args.self.now c.in_ok-check_running.ensures.running) in
    let node = node_in_blocks c.self.inside.blocks in
    let is_gone = names c.args.txn.now in
    let shelf = c.self.inside.shelf in
    let disk = seen (g.D.Disk.told shelf.slots.disk) (g.D.Disk.clock shelf.slots.disk) (g.D.Disk.image shelf.slots.disk) (g.D.Disk.faults shelf.slots.disk) in
    let freed = λ (slot : ℕ). is_freed is_gone (node.users slot) in
    let free = λ (slot : ℕ). c.release.ensures.free slot
    ∙ (ap (λ (slots : List ℕ). cond (is_one_of slots slot) false (is_taken shelf.slots.taken slot)) c.deref.ensures.value
    ∙ ap (λ (b : Bool). cond b false (is_taken shelf.slots.taken slot)) (released c.in-Ok.slots.items is_gone node c.in-Ok.ensures.freed slot)) in
    let rests = rests_freed (is_in_use node) (is_in_use (after_entry (entries.Apply c.args.txn.now) node)) freed shelf c.release.new.self disk
    (λ slot. left_in_use is_gone (node.users slot) (ltb slot 16384)) (λ slot is. freed_in_use is_gone node c.uses_slots_of_rows.ensures.within slot is)
    free c.release.ensures.written (c.self.invariant runs.disks) in
    subst (λ d. Rests (is_in_use (node_in_blocks c.delete.new.self)) c.release.new.self (seen (g.D.Disk.told d) (g.D.Disk.clock d) (g.D.Disk.image d) (g.D.Disk.faults d)))
    (sym c.release.ensures.disk) (subst (λ (n : Node). Rests (is_in_use n) c.release.new.self disk) (sym c.in-Ok.ensures.changes.made) rests)

pub returns-in-Ok-clause-applied : goal.returns-in-Ok-clause-applied
returns-in-Ok-clause-applied g c = rw (← c.self.view_is) (λ runs due. record {
  answer = Ok c.held_count-count.result;
  changes = handed _ _ _ _ _ c.in-Ok.slots c.held_count-count.result c.in-Ok.ensures.changes;
  answers = refl;
  id = refl;
  line = refl;
})

pub returns-in-Ok-clause-freed : goal.returns-in-Ok-clause-freed
returns-in-Ok-clause-freed g c = rw (← c.self.view_is) (λ runs due.
    let node = node_in_blocks c.self.inside.blocks in
    let is_gone = names c.args.txn.now in
    let shelf = c.self.inside.shelf in record {
      free = λ slot. c.release.ensures.free slot
          ∙ (ap (λ (slots : List ℕ). cond (is_one_of slots slot) false (is_taken shelf.slots.taken slot)) c.deref.ensures.value
          ∙ ap (λ (b : Bool). cond b false (is_taken shelf.slots.taken slot)) (released c.in-Ok.slots.items is_gone node c.in-Ok.ensures.freed slot));
      disk = c.release.ensures.disk;
      written = c.release.ensures.written;
      failed = c.release.ensures.failed;
    })

pub returns-in-Ok-clause-gone : goal.returns-in-Ok-clause-gone
returns-in-Ok-clause-gone g c = ap (λ (n : Node). names_held n c.args.txn.now) c.in-Ok.ensures.changes.made ∙ none_named (node_in_blocks c.self.inside.blocks) c.args.txn.now

pub returns-in-Ok-clause-pairs : goal.returns-in-Ok-clause-pairs
returns-in-Ok-clause-pairs g c = rw (← c.self.view_is) (rw c.release.ensures.disk (λ contents holds.
    let runs = rw (← c.self.view_is) at (is_running g.D.Disk.faults c.args.self.now c.in_ok-check_running.ensures.running) in
    let at_rest = rw (← c.self.view_is) at c.in_ok-check_running.ensures.at_rest in
    journal_holds contents (entries.Apply c.args.txn.now) _ _ _ _ _ _ c.in-Ok.ensures.changes runs.journal (λ block row is. fewer_rows (names c.args.txn.now block) ((node_in_blocks c.self.inside.blocks).rows block) row is) c.a_disk_stands_for_one_node.ensures.one_node
    (λ bytes is. (at_rest runs.disks bytes is).0) (g.met.D.Disk.read_is_image c.self.inside.blocks.disk) holds))

pub returns-in-Err-clause-applied : goal.returns-in-Err-clause-applied
returns-in-Err-clause-applied g c = rw (← c.self.view_is) (λ runs due. record {
  answer = Err c.in-Err.fault;
  changes = refused _ _ _ _ _ c.in-Err.fault c.in-Err.ensures.changes;
  answers = ap Err c.refusal.ensures;
  id = refl;
  line = refl;
})

pub returns-in-Err-clause-pairs : goal.returns-in-Err-clause-pairs
returns-in-Err-clause-pairs g c = rw (← c.self.view_is) (λ contents holds.
    let runs = rw (← c.self.view_is) at (is_running g.D.Disk.faults c.args.self.now c.in_ok-check_running.ensures.running) in
    let at_rest = rw (← c.self.view_is) at c.in_ok-check_running.ensures.at_rest in
    journal_holds contents (entries.Apply c.args.txn.now) _ _ _ _ _ _ c.in-Err.ensures.changes runs.journal (λ block row is. fewer_rows (names c.args.txn.now block) ((node_in_blocks c.self.inside.blocks).rows block) row is) c.a_disk_stands_for_one_node.ensures.one_node
    (λ bytes is. (at_rest runs.disks bytes is).0) (g.met.D.Disk.read_is_image c.self.inside.blocks.disk) holds)
