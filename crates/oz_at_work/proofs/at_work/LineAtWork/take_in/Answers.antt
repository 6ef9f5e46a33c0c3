use Rattle.std.proofs.Common.{false, Some, subst}
use Rattle.oz_client.specs.declared.step.Got.TheVariants as gots
use Rattle.oz_at_work.specs.AtWork.{WorkView}
use Rattle.oz_at_work.specs.inner.Taken.{IsTakenUp}
use Rattle.oz_at_work.proofs.Getting.{read_works}
use Rattle.oz_at_work.proofs.at_work.LineAtWork.take_in.Goals as goal

pub returns-clause-works : goal.returns-clause-works
returns-clause-works g c coherent seen was =
    let O = g.O.Opened in
    read_works O.coherent O.opening O.bytes O.script seen c.args.self.now c.args.bytes coherent was c.take_up-taken.new.self
    (subst (λ (w : WorkView). IsTakenUp c.args.self.now (gots.Read (Some c.args.bytes)) w.asked w.said false c.take_up-taken.new.self) c.self.view_is c.take_up-taken.ensures.taken)
