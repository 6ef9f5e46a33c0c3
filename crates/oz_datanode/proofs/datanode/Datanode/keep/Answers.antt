use Rattle.std.proofs.Common.{inl, inr, List, Err, IfSome, refl, sym, ap, ◌∙◌, subst}
use Rattle.std.proofs.lemmas.Bool.{or_parts}
use Rattle.std.proofs.lemmas.List.{length-map}
use Rattle.oz_block.specs.Blocks.{node_in as node_in_blocks}
use Rattle.oz_entries.specs.declared.row.BlockRow.{BlockRow}
use Rattle.oz_block.specs.declared.shelf.written.Written.{Written}
use Rattle.oz_block.specs.shelf.Shelf.{ShelfView}
use Rattle.oz_block.specs.shelf.Written.{chunks_in, is_of, written_of}
use Rattle.oz_block.specs.shelf.laws.Parting.{free_passed}
use Rattle.oz_block.specs.shelf.laws.Written.{makes_count}
use Rattle.oz_datanode.specs.Pairs.{Has}
use Rattle.oz_datanode.specs.Steps.{is_in_use}
use Rattle.oz_datanode.proofs.Calls.{row_fits, still_holds, put_holds, put_rests, kept_ends}
use Rattle.oz_datanode.proofs.Running.{runs_parts}
use Rattle.oz_datanode.proofs.datanode.Datanode.keep.Goals as goal

pub returns-in_err-row-clause-pairs : goal.returns-in_err-row-clause-pairs
returns-in_err-row-clause-pairs g c =
    let rest = rw (← c.self.view_is) at c.requires.at_rest in
    let absent = rw (← c.self.view_is) at c.requires.absent in
    let runs = rw (← c.self.view_is) at c.requires.running in
    let whole = runs_parts g.D.Disk.faults (record { id = c.self.inside.id; blocks = c.self.inside.blocks; shelf = c.self.inside.shelf; stopped = c.self.inside.stopped }) runs in
    let rests = c.self.invariant whole.0 in
    rw (← c.self.view_is) (λ contents content this holds. still_holds g.D.Disk.told g.D.Disk.clock g.D.Disk.image g.D.Disk.faults contents c.args.block content (record { id = c.self.inside.id; blocks = c.self.inside.blocks; shelf = c.self.inside.shelf; stopped = c.self.inside.stopped }) (record { id = c.self.inside.id; blocks = c.self.inside.blocks; shelf = c.self.inside.shelf; stopped = c.self.inside.stopped }) c.a_disk_stands_for_one_node.ensures.one_node rest rests refl refl refl absent holds)

pub returns-in_default-clause-pairs : goal.returns-in_default-clause-pairs
returns-in_default-clause-pairs g c =
    let rest = rw (← c.self.view_is) at c.requires.at_rest in
    let absent = rw (← c.self.view_is) at c.requires.absent in
    let runs = rw (← c.self.view_is) at c.requires.running in
    let whole = runs_parts g.D.Disk.faults (record { id = c.self.inside.id; blocks = c.self.inside.blocks; shelf = c.self.inside.shelf; stopped = c.self.inside.stopped }) runs in
    let rests = c.self.invariant whole.0 in
    rw (← c.self.view_is) (λ contents content this holds. still_holds g.D.Disk.told g.D.Disk.clock g.D.Disk.image g.D.Disk.faults contents c.args.block content (record { id = c.self.inside.id; blocks = c.self.inside.blocks; shelf = c.self.inside.shelf; stopped = c.self.inside.stopped }) (record { id = c.self.inside.id; blocks = c.self.inside.blocks; shelf = c.sync.new.self; stopped = c.self.inside.stopped }) c.a_disk_stands_for_one_node.ensures.one_node rest (c.sync.ensures.rests _ rests) refl refl c.sync.ensures.synced.told absent holds)

pub put-requires : goal.put-requires
put-requires g c =
    let rest = rw (← c.self.view_is) at c.requires.at_rest in
    let absent = rw (← c.self.view_is) at c.requires.absent in
    let runs = rw (← c.self.view_is) at c.requires.running in
    let whole = runs_parts g.D.Disk.faults (record { id = c.self.inside.id; blocks = c.self.inside.blocks; shelf = c.self.inside.shelf; stopped = c.self.inside.stopped }) runs in
    let rests = c.self.invariant whole.0 in
    let takes = rw (← c.self.view_is) at c.requires.takes in
    let made = rw (← c.self.view_is) at c.requires.made in
    (c.requires.block, takes, absent, row_fits (node_in_blocks c.self.inside.blocks) c.in_ok-row.row (chunks_in (written_of c.args.block c.self.inside.shelf.written)) c.args.length c.in_ok-row.ensures c.requires.least c.requires.most (length-map (written_of c.args.block c.self.inside.shelf.written) (λ (w : Written). w.chunk) ∙ makes_count c.self.inside.shelf.written c.args.block c.args.length made) (free_passed (is_in_use (node_in_blocks c.self.inside.blocks)) (is_of c.args.block) c.self.inside.shelf.written rests.free))

pub invariant_of-self-in-Ok-put : goal.invariant_of-self-in-Ok-put
invariant_of-self-in-Ok-put g c =
    let rest = rw (← c.self.view_is) at c.requires.at_rest in
    let absent = rw (← c.self.view_is) at c.requires.absent in
    let runs = rw (← c.self.view_is) at c.requires.running in
    let whole = runs_parts g.D.Disk.faults (record { id = c.self.inside.id; blocks = c.self.inside.blocks; shelf = c.self.inside.shelf; stopped = c.self.inside.stopped }) runs in
    let rests = c.self.invariant whole.0 in
    let chunks = ap (λ (r : BlockRow). r.chunks) c.in_ok-row.ensures ∙ sym (ap (λ (l : List Written). chunks_in (written_of c.args.block l)) c.sync.ensures.written) in
    let running = (or_parts c.self.inside.blocks.stopped c.self.inside.shelf.failed whole.0).0 in
    λ still. put_rests g.D.Disk.told g.D.Disk.clock g.D.Disk.image g.D.Disk.faults (node_in_blocks c.self.inside.blocks) (node_in_blocks c.put.new.self) c.args.block c.in_ok-row.row c.sync.new.self c.forget.new.self c.in-Ok-put.ensures.made chunks (c.sync.ensures.rests _ rests) (c.in-Ok.ensures.settled _ rests) c.forget.ensures.rests

pub returns-in-Ok-put-clause-ends : goal.returns-in-Ok-put-clause-ends
returns-in-Ok-put-clause-ends g c =
    let rest = rw (← c.self.view_is) at c.requires.at_rest in
    let absent = rw (← c.self.view_is) at c.requires.absent in
    let runs = rw (← c.self.view_is) at c.requires.running in
    let whole = runs_parts g.D.Disk.faults (record { id = c.self.inside.id; blocks = c.self.inside.blocks; shelf = c.self.inside.shelf; stopped = c.self.inside.stopped }) runs in
    let rests = c.self.invariant whole.0 in
    rw (← c.self.view_is) (kept_ends g.D.Disk.told g.D.Disk.clock g.D.Disk.image g.D.Disk.faults c.args.block c.in_ok-row.row _ (record { id = c.self.inside.id; blocks = c.self.inside.blocks; shelf = c.self.inside.shelf; stopped = c.self.inside.stopped }) (record { id = c.self.inside.id; blocks = c.put.new.self; shelf = c.forget.new.self; stopped = c.self.inside.stopped }) c.sync.new.self _ c.in_ok-row.ensures c.in-Ok.ensures.synced c.in-Ok-put.ensures c.forget.ensures.forgot c.in-Ok.ensures.failed c.sync.ensures.written c.sync.ensures.taken refl refl whole.1)

pub returns-in-Ok-put-clause-pairs : goal.returns-in-Ok-put-clause-pairs
returns-in-Ok-put-clause-pairs g c =
    let rest = rw (← c.self.view_is) at c.requires.at_rest in
    let absent = rw (← c.self.view_is) at c.requires.absent in
    let runs = rw (← c.self.view_is) at c.requires.running in
    let whole = runs_parts g.D.Disk.faults (record { id = c.self.inside.id; blocks = c.self.inside.blocks; shelf = c.self.inside.shelf; stopped = c.self.inside.stopped }) runs in
    let rests = c.self.invariant whole.0 in
    let chunks = ap (λ (r : BlockRow). r.chunks) c.in_ok-row.ensures ∙ sym (ap (λ (l : List Written). chunks_in (written_of c.args.block l)) c.sync.ensures.written) in
    let running = (or_parts c.self.inside.blocks.stopped c.self.inside.shelf.failed whole.0).0 in
    rw (← c.self.view_is) (λ contents content this holds. put_holds g.D.Disk.told g.D.Disk.clock g.D.Disk.image g.D.Disk.faults contents c.args.block content c.in_ok-row.row (record { id = c.self.inside.id; blocks = c.self.inside.blocks; shelf = c.self.inside.shelf; stopped = c.self.inside.stopped }) (record { id = c.self.inside.id; blocks = c.put.new.self; shelf = c.forget.new.self; stopped = c.self.inside.stopped }) c.sync.new.self c.put.result c.a_disk_stands_for_one_node.ensures.one_node rest running c.put.ensures (c.sync.ensures.rests _ rests) (c.in-Ok.ensures.settled _ rests) c.sync.ensures.synced.told
    (ap (λ (s : ShelfView g.row.D.Denot). s.slots.disk) c.forget.ensures.forgot) chunks absent (subst (λ (r : BlockRow). IfSome (g.D.Disk.told c.self.inside.shelf.slots.disk) (Has content r)) (sym c.in_ok-row.ensures) this) holds (inr c.in-Ok-put.ensures.made))

pub returns-in-Err-Stopped-clause-pairs : goal.returns-in-Err-Stopped-clause-pairs
returns-in-Err-Stopped-clause-pairs g c =
    let rest = rw (← c.self.view_is) at c.requires.at_rest in
    let absent = rw (← c.self.view_is) at c.requires.absent in
    let runs = rw (← c.self.view_is) at c.requires.running in
    let whole = runs_parts g.D.Disk.faults (record { id = c.self.inside.id; blocks = c.self.inside.blocks; shelf = c.self.inside.shelf; stopped = c.self.inside.stopped }) runs in
    let rests = c.self.invariant whole.0 in
    let chunks = ap (λ (r : BlockRow). r.chunks) c.in_ok-row.ensures ∙ sym (ap (λ (l : List Written). chunks_in (written_of c.args.block l)) c.sync.ensures.written) in
    let running = (or_parts c.self.inside.blocks.stopped c.self.inside.shelf.failed whole.0).0 in
    rw (← c.self.view_is) (λ contents content this holds. put_holds g.D.Disk.told g.D.Disk.clock g.D.Disk.image g.D.Disk.faults contents c.args.block content c.in_ok-row.row (record { id = c.self.inside.id; blocks = c.self.inside.blocks; shelf = c.self.inside.shelf; stopped = c.self.inside.stopped }) (record { id = c.self.inside.id; blocks = c.put.new.self; shelf = c.sync.new.self; stopped = c.self.inside.stopped }) c.sync.new.self c.put.result c.a_disk_stands_for_one_node.ensures.one_node rest running c.put.ensures (c.sync.ensures.rests _ rests) (c.in-Ok.ensures.settled _ rests) c.sync.ensures.synced.told
    refl chunks absent (subst (λ (r : BlockRow). IfSome (g.D.Disk.told c.self.inside.shelf.slots.disk) (Has content r)) (sym c.in_ok-row.ensures) this) holds (inl c.in-Err-Stopped.ensures.same))

pub returns-in-Err-OutOfMemory-clause-pairs : goal.returns-in-Err-OutOfMemory-clause-pairs
returns-in-Err-OutOfMemory-clause-pairs g c =
    let rest = rw (← c.self.view_is) at c.requires.at_rest in
    let absent = rw (← c.self.view_is) at c.requires.absent in
    let runs = rw (← c.self.view_is) at c.requires.running in
    let whole = runs_parts g.D.Disk.faults (record { id = c.self.inside.id; blocks = c.self.inside.blocks; shelf = c.self.inside.shelf; stopped = c.self.inside.stopped }) runs in
    let rests = c.self.invariant whole.0 in
    rw (← c.self.view_is) (λ contents content this holds. still_holds g.D.Disk.told g.D.Disk.clock g.D.Disk.image g.D.Disk.faults contents c.args.block content (record { id = c.self.inside.id; blocks = c.self.inside.blocks; shelf = c.self.inside.shelf; stopped = c.self.inside.stopped }) (record { id = c.self.inside.id; blocks = c.put.new.self; shelf = c.sync.new.self; stopped = c.self.inside.stopped }) c.a_disk_stands_for_one_node.ensures.one_node rest (c.sync.ensures.rests _ rests) c.in-Err-OutOfMemory.ensures.same (c.in-Err-OutOfMemory.ensures.untouched (ap Err c.in-Err-OutOfMemory.field-0-is)) c.sync.ensures.synced.told absent holds)
