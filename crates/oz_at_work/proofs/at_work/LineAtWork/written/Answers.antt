use Rattle.std.proofs.Common.{◌≡◌, ℕ, ◌||◌, Bool, not, ap, subst}
use Rattle.oz_client.specs.declared.step.Got.TheVariants as gots
use Rattle.oz_line_blocks.specs.writing.Written.{is_quorum}
use Rattle.oz_at_work.specs.AtWork.{WorkView}
use Rattle.oz_at_work.specs.inner.Taken.{IsTakenUp}
use Rattle.oz_at_work.proofs.Stepping.{written_works}
use Rattle.oz_at_work.proofs.at_work.LineAtWork.written.Goals as goal

pub returns-clause-works : goal.returns-clause-works
returns-clause-works g c coherent seen was =
    let O = g.O.Opened in
    let inside = c.self.inside in
    let work : WorkView = c.args.self.now in
    let asked : inside.asked ≡ work.asked = ap (λ (w : WorkView). w.asked) c.self.view_is in
    let taken : IsTakenUp work (gots.Written c.args.written) work.asked c.args.said (work.gave_up || not (is_quorum c.args.written.answers)) c.take_up-taken.new.self =
    subst (λ (n : ℕ). IsTakenUp work (gots.Written c.args.written) n c.args.said (work.gave_up || not (is_quorum c.args.written.answers)) c.take_up-taken.new.self) asked
    (subst (λ (b : Bool). IsTakenUp work (gots.Written c.args.written) inside.asked c.args.said b c.take_up-taken.new.self) c.gives_up-gave_up.ensures c.take_up-taken.ensures.taken) in
    written_works O.coherent O.opening O.bytes O.script seen work c.args.written c.args.said coherent was c.take_up-taken.new.self taken
