use Rattle.oz_core.specs.declared.event.Event.{Event}
use Rattle.oz_scm_law.specs.Words.{IsSpentIn}
use Rattle.oz_scm_law.proofs.Each.{each_more}
use Rattle.oz_scm_law.proofs.needed.all_spent.Goals as goal

pub loop-event-preserved : goal.loop-event-preserved
loop-event-preserved c =
    each_more (λ (event : Event). IsSpentIn c.args.opening.now c.args.story.now c.args.stripe c.args.exclude.now event.kind) c.args.story.now c.loop-event.event-index c.event-item.result
    c.loop-event-test.true c.event-item.is c.loop-event.invariant (c.is_spent_in.ensures.0 c.if-not-is_spent_in.false)
