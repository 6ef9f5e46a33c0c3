use Rattle.std.proofs.Common.{ap, subst}
use Rattle.oz_command.specs.declared.command.Command.{Command}
use Rattle.oz_client.specs.LineState.{LineState}
use Rattle.oz_client.specs.Stories.{IsStepEverywhere}
use Rattle.oz_client.specs.inner.Ready.{IsStepped}
use Rattle.oz_client.proofs.Stories.{next-so}
use Rattle.oz_client.proofs.steps.LineSteps.next.Goals as goal

pub returns-clause-so : goal.returns-clause-so
returns-clause-so c =
    let its : IsStepped c.self.inside.command.now c.self.inside.progress c.args.got c.advance.new.progress c.in_ok-stepped.stepped = c.in_ok-stepped.ensures.ok in
    subst (λ (command : Command). IsStepEverywhere command c.advance.new.progress c.args.got c.in_ok-stepped.stepped.step)
    (ap (λ (state : LineState). state.command) c.self.view_is)
    (next-so c.self.inside.command.now c.self.inside.progress c.advance.new.progress c.args.got c.in_ok-stepped.stepped.step its.noted its.next)
