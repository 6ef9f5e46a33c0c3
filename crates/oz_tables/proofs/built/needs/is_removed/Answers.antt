use Rattle.std.proofs.Common.{sym, ◌∙◌}
use Rattle.oz_tables.specs.declared.built.body.Step.{Step}
use Rattle.oz_effects.specs.Build.{removes}
use Rattle.oz_tables.specs.built.laws.Lefts.{any_map}
use Rattle.oz_tables.proofs.built.needs.is_removed.Goals as goal

pub returns : goal.returns
returns c = c.some_step_removes.ensures ∙ sym (any_map (λ (step : Step). step.operation) (removes c.args.key.now) c.args.steps.now)
