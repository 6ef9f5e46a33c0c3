use Rattle.std.proofs.Common.{sym, ◌∙◌}
use Rattle.oz_tables.specs.declared.built.body.Step.{Step}
use Rattle.oz_effects.specs.Build.{puts}
use Rattle.oz_tables.specs.built.laws.Lefts.{any_map}
use Rattle.oz_tables.proofs.built.needs.is_put.Goals as goal

pub returns : goal.returns
returns c = c.some_step_puts.ensures ∙ sym (any_map (λ (step : Step). step.operation) (puts c.args.key.now) c.args.steps.now)
