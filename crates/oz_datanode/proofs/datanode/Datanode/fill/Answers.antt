use Rattle.std.proofs.Common.{arith}
use Rattle.std.proofs.lemmas.Result.{err_from_is_err_and}
use Rattle.oz_datanode.proofs.Filling.{filled_none, filled_more, filled_all, rest_filled, part_refused, others_refused, within}
use Rattle.oz_datanode.proofs.datanode.Datanode.fill.Goals as goal

pub loop-place-init : goal.loop-place-init
loop-place-init g c = filled_none g.D.Disk.told g.D.Disk.clock g.D.Disk.image g.D.Disk.faults c.args.block c.args.bytes.now c.args.self.now c.requires.running c.requires.empty

pub write_part-requires-clause-running : goal.write_part-requires-clause-running
write_part-requires-clause-running g c = c.loop-place.invariant.runs

pub write_part-requires-clause-at_rest : goal.write_part-requires-clause-at_rest
write_part-requires-clause-at_rest g c = rest_filled g.D.Disk.told g.D.Disk.clock g.D.Disk.image g.D.Disk.faults c.args.block c.args.bytes.now c.loop-place.place c.args.self.now c.loop-place.self c.loop-place.invariant c.requires.at_rest

pub loop-place-preserved : goal.loop-place-preserved
loop-place-preserved g c = filled_more g.D.Disk.told g.D.Disk.clock g.D.Disk.image g.D.Disk.faults c.args.block c.args.bytes.now c.loop-place.place c.part_at-part.result.now c.args.self.now c.loop-place.self c.write_part.new.self c.loop-place.invariant c.in_ok-write_part.ensures.ends c.part_at-part.ensures.part (within c.loop-place.place _ (omega arith)) c.in_ok-write_part.ensures.next c.write_part.ensures.goes_on c.write_part.ensures.pairs

pub returns-clause-ends : goal.returns-clause-ends
returns-clause-ends g c = filled_all g.D.Disk.told g.D.Disk.clock g.D.Disk.image g.D.Disk.faults c.args.block c.args.bytes.now c.loop-place.place c.args.self.now c.loop-place.self c.loop-place.invariant (omega arith)

pub returns-in_err-write_part-clause-ends : goal.returns-in_err-write_part-clause-ends
returns-in_err-write_part-clause-ends g c =
    let p = err_from_is_err_and c.from_residual.result c.from_residual.ensures.1 in
    rw (p.1, p.2) (part_refused g.D.Disk.told g.D.Disk.clock g.D.Disk.image g.D.Disk.faults c.args.block c.args.bytes.now (Unit {0}) c.loop-place.place c.part_at-part.result.now c.args.self.now c.loop-place.self c.write_part.new.self _ c.loop-place.invariant (omega arith) c.in_err-write_part.ensures.ends)

pub returns-in_err-write_part-clause-others : goal.returns-in_err-write_part-clause-others
returns-in_err-write_part-clause-others g c = others_refused g.D.Disk.told g.D.Disk.clock g.D.Disk.image g.D.Disk.faults c.args.block c.args.bytes.now (Unit {0}) c.loop-place.place c.part_at-part.result.now c.args.self.now c.loop-place.self c.write_part.new.self _ c.loop-place.invariant c.in_err-write_part.ensures.ends
