use Rattle.std.proofs.Common.{sym, ◌∙◌}
use Rattle.oz_core.specs.declared.event.Event.{Event}
use Rattle.oz_core.specs.Manager.{granted_block}
use Rattle.oz_replay.specs.laws.Found.{given, given-finds}
use Rattle.oz_scm_law.specs.Words.{block_at}
use Rattle.oz_scm_law.proofs.used.was_granted.Goals as goal

pub returns : goal.returns
returns c = (
  λ h. given (block_at c.args.container c.args.local) (λ (event : Event). granted_block event.kind) c.args.story.now (sym c.any_granted.ensures ∙ h),
  λ there. c.any_granted.ensures ∙ given-finds (block_at c.args.container c.args.local) (λ (event : Event). granted_block event.kind) c.args.story.now there,
)
