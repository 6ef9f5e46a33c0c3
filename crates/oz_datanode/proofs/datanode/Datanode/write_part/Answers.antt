use Rattle.std.proofs.Common.{◌≡◌, ◌*◌, [], refl, ap, arith}
use Rattle.oz_block.specs.Blocks.{node_in as node_in_blocks}
use Rattle.oz_chunk.specs.declared.fault.SlotFull.{SlotFull}
use Rattle.oz_block.specs.shelf.Shelf.{ShelfView}
use Rattle.oz_datanode.proofs.Calls.{wrote_holds}
use Rattle.oz_datanode.proofs.Making.{next_made, others_made, none_made, own_part, other_part}
use Rattle.oz_datanode.proofs.Parts.{full_whose, taken_at, taken_written, with_shelf}
use Rattle.oz_datanode.proofs.Running.{runs_parts}
use Rattle.oz_datanode.proofs.datanode.Datanode.write_part.Goals as goal

pub returns-in-Ok-clause-first : goal.returns-in-Ok-clause-first
returns-in-Ok-clause-first g c =
    let runs = rw (← c.self.view_is) at c.requires.running in
    let whole = runs_parts g.D.Disk.faults (record { id = c.self.inside.id; blocks = c.self.inside.blocks; shelf = c.self.inside.shelf; stopped = c.self.inside.stopped }) runs in
    let rests = c.self.invariant whole.0 in
    rw (← c.self.view_is) (λ zero none.
    let start : 0 ≡ c.args.chunk * 16384 = omega (arith, zero) in
    next_made g.D.Disk.told c.args.block c.args.chunk c.args.bytes.now c.self.inside.shelf c.write.new.self c.in-Ok.ensures.written c.write.ensures.kept c.write.ensures.telling (taken_written (node_in_blocks c.self.inside.blocks) c.self.inside.shelf _ rests) [] c.requires.least c.requires.most (none_made g.D.Disk.told c.args.block c.self.inside.shelf none) start)

pub returns-in-Ok-clause-next : goal.returns-in-Ok-clause-next
returns-in-Ok-clause-next g c =
    let runs = rw (← c.self.view_is) at c.requires.running in
    let whole = runs_parts g.D.Disk.faults (record { id = c.self.inside.id; blocks = c.self.inside.blocks; shelf = c.self.inside.shelf; stopped = c.self.inside.stopped }) runs in
    let rests = c.self.invariant whole.0 in
    rw (← c.self.view_is) (λ front made whole. next_made g.D.Disk.told c.args.block c.args.chunk c.args.bytes.now c.self.inside.shelf c.write.new.self c.in-Ok.ensures.written c.write.ensures.kept c.write.ensures.telling (taken_written (node_in_blocks c.self.inside.blocks) c.self.inside.shelf _ rests) front c.requires.least c.requires.most made whole)

pub returns-in-Ok-clause-others : goal.returns-in-Ok-clause-others
returns-in-Ok-clause-others g c =
    let runs = rw (← c.self.view_is) at c.requires.running in
    let whole = runs_parts g.D.Disk.faults (record { id = c.self.inside.id; blocks = c.self.inside.blocks; shelf = c.self.inside.shelf; stopped = c.self.inside.stopped }) runs in
    let rests = c.self.invariant whole.0 in
    rw (← c.self.view_is) (λ other made apart was. others_made g.D.Disk.told c.args.block c.args.chunk c.args.bytes.now c.self.inside.shelf c.write.new.self c.in-Ok.ensures.written c.write.ensures.kept c.write.ensures.telling (taken_written (node_in_blocks c.self.inside.blocks) c.self.inside.shelf _ rests) other made apart was)

pub returns-in-Ok-clause-pairs : goal.returns-in-Ok-clause-pairs
returns-in-Ok-clause-pairs g c =
    let rest = rw (← c.self.view_is) at c.requires.at_rest in
    let runs = rw (← c.self.view_is) at c.requires.running in
    let whole = runs_parts g.D.Disk.faults (record { id = c.self.inside.id; blocks = c.self.inside.blocks; shelf = c.self.inside.shelf; stopped = c.self.inside.stopped }) runs in
    let rests = c.self.invariant whole.0 in
    rw (← c.self.view_is) (λ contents holds. wrote_holds g.D.Disk.told g.D.Disk.clock g.D.Disk.image g.D.Disk.faults contents (record { id = c.self.inside.id; blocks = c.self.inside.blocks; shelf = c.self.inside.shelf; stopped = c.self.inside.stopped }) (record { id = c.self.inside.id; blocks = c.self.inside.blocks; shelf = c.write.new.self; stopped = c.self.inside.stopped }) c.a_disk_stands_for_one_node.ensures.one_node rest rests refl (c.write.ensures.settled _ rests) c.write.ensures.kept c.write.ensures.telling holds)

pub returns-in-Err-Failed-clause-pairs : goal.returns-in-Err-Failed-clause-pairs
returns-in-Err-Failed-clause-pairs g c =
    let rest = rw (← c.self.view_is) at c.requires.at_rest in
    let runs = rw (← c.self.view_is) at c.requires.running in
    let whole = runs_parts g.D.Disk.faults (record { id = c.self.inside.id; blocks = c.self.inside.blocks; shelf = c.self.inside.shelf; stopped = c.self.inside.stopped }) runs in
    let rests = c.self.invariant whole.0 in
    rw (← c.self.view_is) (λ contents holds. wrote_holds g.D.Disk.told g.D.Disk.clock g.D.Disk.image g.D.Disk.faults contents (record { id = c.self.inside.id; blocks = c.self.inside.blocks; shelf = c.self.inside.shelf; stopped = c.self.inside.stopped }) (record { id = c.self.inside.id; blocks = c.self.inside.blocks; shelf = c.write.new.self; stopped = c.self.inside.stopped }) c.a_disk_stands_for_one_node.ensures.one_node rest rests refl (c.write.ensures.settled _ rests) c.write.ensures.kept c.write.ensures.telling holds)

pub returns-in-Err-Full-clause-ends : goal.returns-in-Err-Full-clause-ends
returns-in-Err-Full-clause-ends g c =
    let runs = rw (← c.self.view_is) at c.requires.running in
    let whole = runs_parts g.D.Disk.faults (record { id = c.self.inside.id; blocks = c.self.inside.blocks; shelf = c.self.inside.shelf; stopped = c.self.inside.stopped }) runs in
    let rests = c.self.invariant whole.0 in
    let facts = c.in-Err-Full.ensures.full c.in-Err-Full.full c.in-Err-Full.field-0-is in
    rw (← c.self.view_is) (record {
      full = facts.0;
      whose = full_whose (node_in_blocks c.self.inside.blocks) c.self.inside.shelf _ rests facts.0;
      used = ap (λ (f : SlotFull). f.used) facts.1;
      asked = ap (λ (f : SlotFull). f.asked) facts.1;
      capacity = ap (λ (f : SlotFull). f.capacity) facts.1;
      same = ap (λ (s : ShelfView g.row.D.Denot). with_shelf (record { id = c.self.inside.id; blocks = c.self.inside.blocks; shelf = c.self.inside.shelf; stopped = c.self.inside.stopped }) s) facts.2;
    })

pub returns-in-Ok-clause-part : goal.returns-in-Ok-clause-part
returns-in-Ok-clause-part g c = own_part g.D.Disk.told c.args.block c.args.chunk c.args.bytes.now c.self.inside.shelf c.write.new.self c.in-Ok.ensures.written c.requires.most c.each_place_has_its_last_chunk.ensures.own

pub returns-in-Ok-clause-parts : goal.returns-in-Ok-clause-parts
returns-in-Ok-clause-parts g c =
    let runs = rw (← c.self.view_is) at c.requires.running in
    let whole = runs_parts g.D.Disk.faults (record { id = c.self.inside.id; blocks = c.self.inside.blocks; shelf = c.self.inside.shelf; stopped = c.self.inside.stopped }) runs in
    let rests = c.self.invariant whole.0 in
    rw (← c.self.view_is) (λ other place part apart was. other_part g.D.Disk.told c.args.block c.args.chunk c.args.bytes.now c.self.inside.shelf c.write.new.self c.in-Ok.ensures.written c.write.ensures.kept c.write.ensures.telling (taken_at (node_in_blocks c.self.inside.blocks) c.self.inside.shelf _ rests) other place part apart c.each_place_has_its_last_chunk.ensures.others was)
