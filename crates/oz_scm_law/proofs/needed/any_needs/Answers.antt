use Rattle.std.proofs.Common.{sym, ◌∙◌}
use Rattle.oz_core.specs.declared.event.Event.{Event}
use Rattle.oz_replay.specs.laws.Found.{false-true}
use Rattle.oz_scm_law.specs.Words.{NeedsMore}
use Rattle.oz_scm_law.proofs.Each.{each_more, none}
use Rattle.oz_scm_law.proofs.needed.any_needs.Goals as goal

pub loop-event-preserved : goal.loop-event-preserved
loop-event-preserved c =
    each_more (λ (event : Event). NeedsMore c.args.opening.now c.args.story.now c.args.stripe c.args.container c.args.pipeline event.kind → ⊥) c.args.story.now c.loop-event.event-index c.event-item.result
    c.loop-event-test.true c.event-item.is c.loop-event.invariant (λ needs. false-true (sym c.if-needs_more.false ∙ c.needs_more.ensures.1 needs))

pub returns : goal.returns
returns c =
    let needs = λ (event : Event). NeedsMore c.args.opening.now c.args.story.now c.args.stripe c.args.container c.args.pipeline event.kind in (
      λ h. false-true h,
      λ any. absurd (none needs c.args.story.now c.loop-event.event-index c.loop-event-test.false c.loop-event.invariant any),
    )
