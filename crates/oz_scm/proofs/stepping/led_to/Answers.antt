use Rattle.std.proofs.Common.{Some, sym, ap, ◌∙◌}
use Rattle.std.specs.Option.{option_map}
use Rattle.oz_container.specs.declared.state.State.{State as Reached}
use Rattle.oz_scm.specs.declared.grants.container.Container.{Container}
use Rattle.oz_scm.proofs.Applied.{not_next}
use Rattle.oz_scm.proofs.stepping.led_to.Goals as goal

pub returns-in-Err-clause-wrong : goal.returns-in-Err-clause-wrong
returns-in-Err-clause-wrong c =
    let wrong = not_next c.in-Some.container.state c.args.event c.in-Err.wrong (sym c.in-Err.is ∙ c.event.ensures) in
    (ap (option_map (λ (one : Container). one.state)) (sym c.in-Some.ensures.found) ∙ ap (λ (state : Reached). Some state) wrong.0, wrong.1, wrong.2)
