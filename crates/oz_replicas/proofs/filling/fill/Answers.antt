use Rattle.std.proofs.Common.{arith}
use Rattle.std.proofs.lemmas.Result.{err_from_is_err_and}
use Rattle.oz_replicas.proofs.Chunks.{written_none, written_more, written_all, write_gives_up, refused_own, within}
use Rattle.oz_replicas.proofs.filling.fill.Goals as goal

pub loop-place-init : goal.loop-place-init
loop-place-init g c = written_none g.D.Disk.told g.D.Disk.clock g.D.Disk.image g.D.Disk.faults c.args.block c.args.bytes.now c.args.node.now c.requires.idle

pub loop-place-preserved : goal.loop-place-preserved
loop-place-preserved g c = written_more g.D.Disk.told g.D.Disk.clock g.D.Disk.image g.D.Disk.faults c.args.block c.args.bytes.now c.loop-place.place c.part.result.now c.args.node.now c.loop-place.node c.write_digested.new.self c.loop-place.invariant c.in_ok-write_digested.ensures.ends.0 c.in_ok-write_digested.ensures.ends.1 c.part.ensures.part (within c.loop-place.place _ (omega arith)) c.in_ok-write_digested.ensures.first c.in_ok-write_digested.ensures.next c.write_digested.ensures.pairs c.write_digested.ensures.goes_on

pub returns-clause-goes : goal.returns-clause-goes
returns-clause-goes g c = written_all g.D.Disk.told g.D.Disk.clock g.D.Disk.image g.D.Disk.faults c.args.block c.args.bytes.now (tt {0}) c.loop-place.place c.args.node.now c.loop-place.node c.loop-place.invariant (omega arith) c.requires.least

pub returns-clause-own : goal.returns-clause-own
returns-clause-own g c = c.loop-place.invariant.own

pub returns-in_err-write_digested-clause-goes : goal.returns-in_err-write_digested-clause-goes
returns-in_err-write_digested-clause-goes g c =
    let p = err_from_is_err_and c.from_residual.result c.from_residual.ensures.1 in
    rw (p.1, p.2) (write_gives_up g.D.Disk.told g.D.Disk.clock g.D.Disk.image g.D.Disk.faults c.args.block c.args.bytes.now (Unit {0}) c.in_err-write_digested.field-0.0 c.loop-place.place c.part.result.now c.args.node.now c.loop-place.node c.write_digested.new.self c.loop-place.invariant (within c.loop-place.place _ (omega arith)) c.requires.wanted c.in_err-write_digested.ensures.ends c.write_digested.ensures.pairs c.write_digested.ensures.goes_on)

pub returns-in_err-write_digested-clause-own : goal.returns-in_err-write_digested-clause-own
returns-in_err-write_digested-clause-own g c = refused_own g.D.Disk.told g.D.Disk.clock g.D.Disk.image g.D.Disk.faults c.args.block c.args.bytes.now (Unit {0}) c.in_err-write_digested.field-0.0 c.loop-place.place c.part.result.now c.loop-place.node c.write_digested.new.self c.in_err-write_digested.ensures.ends c.loop-place.invariant.own
