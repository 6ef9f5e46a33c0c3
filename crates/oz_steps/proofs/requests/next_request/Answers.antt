use Rattle.std.proofs.Common.{◌∙◌, sym}
use Rattle.oz_steps.specs.laws.Next.{result-so}
use Rattle.oz_steps.proofs.requests.next_request.Goals as goal

pub returns-clause-so : goal.returns-clause-so
returns-clause-so c =
    result-so c.args.command.now c.args.label.now c.args.came.now c.step_of.result
    (sym c.is_refused.ensures ∙ c.if-is_refused.false) c.step_of.ensures
