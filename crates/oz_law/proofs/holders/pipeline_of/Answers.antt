use Rattle.std.proofs.Common.{ℕ, take, Option, sym, ◌∙◌, ap}
use Rattle.std.specs.FinMap.{get}
use Rattle.oz_core.specs.declared.event.Event.{Event}
use Rattle.oz_core.specs.Scm.{containers}
use Rattle.oz_law.specs.Words.{pipeline_in, pipeline_after}
use Rattle.oz_law.proofs.Made.{pipeline_more}
use Rattle.oz_law.proofs.holders.pipeline_of.Goals as goal

pub loop-event-preserved : goal.loop-event-preserved
loop-event-preserved c =
    c.pipeline_after-pipeline.ensures
    ∙ (ap (λ (p : Option ℕ). pipeline_after c.args.number p c.event-item.result.kind) c.loop-event.invariant
    ∙ (ap (λ (e : Event). pipeline_after c.args.number (pipeline_in (get (containers c.args.opening.now (take c.loop-event.event-index c.args.story.now)) c.args.number)) e.kind) c.event-item.is
    ∙ sym (pipeline_more c.args.opening.now c.args.story.now c.args.number c.loop-event.event-index c.event-item.result c.loop-event-test.true)))
