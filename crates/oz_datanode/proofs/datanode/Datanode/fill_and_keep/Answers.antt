use Rattle.std.proofs.Common.{◌∙◌}
use Rattle.std.proofs.lemmas.Result.{err_from_is_err_and}
use Rattle.oz_datanode.specs.Writing.{intact}
use Rattle.oz_datanode.proofs.Joining.{own_holds}
use Rattle.oz_datanode.proofs.Refusing.{fill_refused, keep_others}
use Rattle.oz_datanode.proofs.datanode.Datanode.fill_and_keep.Goals as goal

pub returns-clause-pairs : goal.returns-clause-pairs
returns-clause-pairs g c = λ contents own holds. own_holds g.D.Disk.told g.D.Disk.clock g.D.Disk.image g.D.Disk.faults c.args.block contents (intact c.args.bytes.now) c.keep.new.self own (c.keep.ensures.pairs contents (intact c.args.bytes.now) c.in_ok-fill.ensures.ends.made.has (c.fill.ensures.pairs contents holds))

pub returns-in_err-fill-clause-goes : goal.returns-in_err-fill-clause-goes
returns-in_err-fill-clause-goes g c =
    let p = err_from_is_err_and c.from_residual.result c.from_residual.ensures.1 in
    rw (p.1, p.2) (fill_refused g.D.Disk.told g.D.Disk.clock g.D.Disk.image g.D.Disk.faults c.args.block c.args.bytes.now (Unit {0}) c.args.self.now c.fill.new.self _ c.fill.ensures.others c.in_err-fill.ensures.ends)

pub returns-clause-others : goal.returns-clause-others
returns-clause-others g c = keep_others g.D.Disk.told g.D.Disk.clock g.D.Disk.image g.D.Disk.faults c.args.block _ c.fill.new.self c.keep.new.self c.keep.result c.keep.ensures.ends ∙ c.fill.ensures.others
