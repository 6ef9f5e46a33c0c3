use Rattle.std.proofs.Common.{ℕ, take, sym, ◌∙◌, ap, arith}
use Rattle.std.specs.FinMap.{get}
use Rattle.oz_core.specs.declared.event.Event.{Event}
use Rattle.oz_core.specs.Scm.{containers}
use Rattle.oz_scm_law.specs.Words.{granted_to, granted_after}
use Rattle.oz_scm_law.proofs.Made.{granted_more}
use Rattle.oz_scm_law.proofs.ids.granted_of.Goals as goal

pub loop-event-preserved : goal.loop-event-preserved
loop-event-preserved c = record {
  is =
      c.granted_after-granted.ensures.now
      ∙ (ap (λ (n : ℕ). granted_after c.args.number n c.event-item.result.kind) c.loop-event.invariant.is
      ∙ (ap (λ (e : Event). granted_after c.args.number (granted_to (get (containers c.args.opening.now (take c.loop-event.event-index c.args.story.now)) c.args.number)) e.kind) c.event-item.is
      ∙ sym (granted_more c.args.opening.now c.args.story.now c.args.number c.loop-event.event-index c.event-item.result c.loop-event-test.true)));
  few = omega (arith, c.granted_after-granted.ensures.few, c.loop-event.invariant.few);
}
