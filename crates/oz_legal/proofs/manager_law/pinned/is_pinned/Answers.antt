use Rattle.std.proofs.Common.{sym, ◌∙◌}
use Rattle.oz_core.specs.declared.event.Event.{Event}
use Rattle.oz_core.specs.Manager.{pinned_by}
use Rattle.oz_replay.specs.laws.Found.{listed, listed-finds}
use Rattle.oz_legal.proofs.manager_law.pinned.is_pinned.Goals as goal

pub returns : goal.returns
returns c =
    let story = c.args.story.now in (
      λ h. listed c.args.block (λ (event : Event). pinned_by story event.kind) story (sym c.any_pins.ensures ∙ h),
      λ there. c.any_pins.ensures ∙ listed-finds c.args.block (λ (event : Event). pinned_by story event.kind) story there,
    )
