use Rattle.std.proofs.Common.{ℕ, take, sym, ◌∙◌, ap}
use Rattle.oz_core.specs.declared.event.Event.{Event}
use Rattle.oz_core.specs.Scm.{greatest_container}
use Rattle.oz_scm_law.specs.Words.{greatest_after}
use Rattle.oz_scm_law.proofs.Greatest.{greatest_more}
use Rattle.oz_scm_law.proofs.ids.greatest_container.Goals as goal

pub loop-event-preserved : goal.loop-event-preserved
loop-event-preserved c =
    c.greatest_after-greatest.ensures
    ∙ (ap (λ (n : ℕ). greatest_after n c.event-item.result.kind) c.loop-event.invariant
    ∙ (ap (λ (e : Event). greatest_after (greatest_container c.args.opening.now (take c.loop-event.event-index c.args.story.now)) e.kind) c.event-item.is
    ∙ sym (greatest_more c.args.opening.now c.args.story.now c.loop-event.event-index c.event-item.result c.loop-event-test.true)))
