use Rattle.std.proofs.Common.{◌≡◌, ℕ, true, List, IfSome, sym, subst}
use Rattle.oz_block.specs.Blocks.{node_in as node_in_blocks}
use Rattle.oz_chunk.specs.Slots.{IsWithin}
use Rattle.oz_entries.specs.declared.row.Chunk.{Chunk}
use Rattle.oz_entries.specs.Held.{any_in}
use Rattle.oz_datanode.specs.Steps.{is_in_use}
use Rattle.oz_datanode.proofs.Chunks.{row_within, rests_read, pairs_read, if_some}
use Rattle.oz_datanode.proofs.Copied.{read_as_kept}
use Rattle.oz_datanode.proofs.RunningParts.{is_running, runs_still}
use Rattle.oz_datanode.proofs.datanode.Datanode.read_unverified.Goals as goal

pub copy_chunks-requires-clause-within : goal.copy_chunks-requires-clause-within
copy_chunks-requires-clause-within g c =
    let runs = rw (← c.self.view_is) at (is_running g.D.Disk.faults c.args.self.now c.in_ok-check_running.ensures.running) in
    subst (λ (l : List Chunk). IfSome (g.D.Disk.told c.self.inside.shelf.slots.disk) (λ slots. (slot : ℕ) → any_in l slot ≡ true → IsWithin slot slots)) (sym c.items.ensures)
    (row_within (node_in_blocks c.self.inside.blocks) c.self.inside.shelf _ c.args.block c.in-Some.row.now (c.self.invariant runs.disks) c.uses_slots_of_rows.ensures.sound c.uses_slots_of_rows.ensures.within c.in-Some.ensures)

pub invariant_of-self : goal.invariant_of-self
invariant_of-self g c = λ going.
    let runs = rw (← c.self.view_is) at (is_running g.D.Disk.faults c.args.self.now c.in_ok-check_running.ensures.running) in
    rests_read (is_in_use (node_in_blocks c.self.inside.blocks)) c.self.inside.shelf _ _ _ (c.self.invariant runs.disks) c.in-Ok.ensures.reads

pub invariant_of-self-in-Err-OutOfMemory : goal.invariant_of-self-in-Err-OutOfMemory
invariant_of-self-in-Err-OutOfMemory g c = λ going.
    let runs = rw (← c.self.view_is) at (is_running g.D.Disk.faults c.args.self.now c.in_ok-check_running.ensures.running) in
    rests_read (is_in_use (node_in_blocks c.self.inside.blocks)) c.self.inside.shelf _ _ _ (c.self.invariant runs.disks) c.in-Err-OutOfMemory.ensures.reads

pub returns-in-Ok-clause-chunks : goal.returns-in-Ok-clause-chunks
returns-in-Ok-clause-chunks g c = rw (← c.self.view_is) (
    let runs = rw (← c.self.view_is) at (is_running g.D.Disk.faults c.args.self.now c.in_ok-check_running.ensures.running) in
    let ran = rw (← c.self.view_is) at c.in_ok-check_running.ensures.running in record {
      ran = ran;
      runs = runs_still g.D.Disk.faults c.self.inside.id c.self.inside.blocks c.copy_chunks.new.shelf c.self.inside.stopped runs.journal c.in-Ok.ensures.failed runs.line;
      row = c.in-Some.row.now;
      held = sym c.in-Some.ensures;
      are = if_some _ _ (rw c.items.ensures at c.in-Ok.ensures.copied);
    })

pub returns-in-Ok-clause-pairs : goal.returns-in-Ok-clause-pairs
returns-in-Ok-clause-pairs g c = rw (← c.self.view_is) (λ contents holds. pairs_read contents _ _ _ _ _ _ c.in-Ok.ensures.reads holds)

pub returns-in-Err-Failed-clause-pairs : goal.returns-in-Err-Failed-clause-pairs
returns-in-Err-Failed-clause-pairs g c = rw (← c.self.view_is) (λ contents holds. pairs_read contents _ _ _ _ _ _ c.in-Err-Failed.ensures.reads holds)

pub returns-in-Err-OutOfMemory-clause-pairs : goal.returns-in-Err-OutOfMemory-clause-pairs
returns-in-Err-OutOfMemory-clause-pairs g c = rw (← c.self.view_is) (λ contents holds. pairs_read contents _ _ _ _ _ _ c.in-Err-OutOfMemory.ensures.reads holds)

pub returns-in-Ok-clause-read : goal.returns-in-Ok-clause-read
returns-in-Ok-clause-read g c = rw (← c.self.view_is) (
    let runs = rw (← c.self.view_is) at (is_running g.D.Disk.faults c.args.self.now c.in_ok-check_running.ensures.running) in
    let ran = rw (← c.self.view_is) at c.in_ok-check_running.ensures.running in
    read_as_kept g.D.Disk.told g.D.Disk.faults c.args.block c.in-Ok.chunks.items _ _ (record {
      ran = ran;
      runs = runs_still g.D.Disk.faults c.self.inside.id c.self.inside.blocks c.copy_chunks.new.shelf c.self.inside.stopped runs.journal c.in-Ok.ensures.failed runs.line;
      row = c.in-Some.row.now;
      held = sym c.in-Some.ensures;
      are = if_some _ _ (rw c.items.ensures at c.in-Ok.ensures.copied);
    }))

-- ---- it never looks at the digests

pub returns-in-Err-Bad-clause-refused : goal.returns-in-Err-Bad-clause-refused
returns-in-Err-Bad-clause-refused g c = absurd (c.in-Err-Bad.ensures.not_bad c.in-Err-Bad.kept c.in-Err-Bad.found c.in-Err-Bad.field-0-is)

pub returns-in-Err-Bad-clause-not_bad : goal.returns-in-Err-Bad-clause-not_bad
returns-in-Err-Bad-clause-not_bad g c = absurd (c.in-Err-Bad.ensures.not_bad c.in-Err-Bad.kept c.in-Err-Bad.found c.in-Err-Bad.field-0-is)

pub returns-in-Err-Bad-clause-pairs : goal.returns-in-Err-Bad-clause-pairs
returns-in-Err-Bad-clause-pairs g c = rw (← c.self.view_is) (λ contents holds. pairs_read contents _ _ _ _ _ _ c.in-Err-Bad.ensures.reads holds)

pub invariant_of-self-in-Err-Bad : goal.invariant_of-self-in-Err-Bad
invariant_of-self-in-Err-Bad g c = λ going.
    let runs = rw (← c.self.view_is) at (is_running g.D.Disk.faults c.args.self.now c.in_ok-check_running.ensures.running) in
    rests_read (is_in_use (node_in_blocks c.self.inside.blocks)) c.self.inside.shelf _ _ _ (c.self.invariant runs.disks) c.in-Err-Bad.ensures.reads
