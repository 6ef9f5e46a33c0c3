use Rattle.std.proofs.Common.{sym, ◌∙◌}
use Rattle.oz_core.specs.declared.event.Event.{Event}
use Rattle.oz_replay.specs.Words.{granted_in}
use Rattle.oz_replay.specs.laws.Found.{given, given-finds}
use Rattle.oz_replay.proofs.used.was_granted.Goals as goal

pub returns : goal.returns
returns c = (
  λ h. given c.args.block (λ (event : Event). granted_in c.args.most event.kind) c.args.story.now (sym c.any_granted.ensures ∙ h),
  λ there. c.any_granted.ensures ∙ given-finds c.args.block (λ (event : Event). granted_in c.args.most event.kind) c.args.story.now there,
)
