use Rattle.std.proofs.Common.{take, Option, sym, ◌∙◌, ap}
use Rattle.std.specs.FinMap.{get}
use Rattle.oz_container.specs.declared.state.State.{State}
use Rattle.oz_core.specs.declared.event.Event.{Event}
use Rattle.oz_core.specs.Scm.{containers}
use Rattle.oz_scm_law.specs.Words.{state_in, state_after}
use Rattle.oz_scm_law.proofs.Made.{state_more}
use Rattle.oz_scm_law.proofs.containers.state_of.Goals as goal

pub loop-event-preserved : goal.loop-event-preserved
loop-event-preserved c =
    c.state_after-state.ensures
    ∙ (ap (λ (s : Option State). state_after c.args.number s c.event-item.result.kind) c.loop-event.invariant
    ∙ (ap (λ (e : Event). state_after c.args.number (state_in (get (containers c.args.opening.now (take c.loop-event.event-index c.args.story.now)) c.args.number)) e.kind) c.event-item.is
    ∙ sym (state_more c.args.opening.now c.args.story.now c.args.number c.loop-event.event-index c.event-item.result c.loop-event-test.true)))
