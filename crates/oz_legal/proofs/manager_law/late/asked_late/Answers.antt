use Rattle.std.proofs.Common.{◌≡◌, ◌∙◌, [], Bool, false, sym, ap, refl, take, get_or, rules}
use Rattle.oz_core.specs.declared.event.Event.{Event}
use Rattle.oz_core.specs.Manager.{late_from, late_step}
use Rattle.oz_legal.proofs.manager_law_lemmas.Halted.{late_more}
use Rattle.oz_legal.proofs.manager_law.late.asked_late.Goals as goal

pub loop-i-init : goal.loop-i-init
unfolding late_from
loop-i-init c = refl

pub loop-i-preserved : goal.loop-i-preserved
loop-i-preserved c =
    let story = c.args.story.now in
    let event = c.index-story-i.result in
    let i = c.loop-i.i in
    let same : event ≡ get_or story i event = search rules in
    c.late_step-late.ensures
    ∙ ap (λ (late : Bool). late_step c.args.id (take i story) late event.kind) c.loop-i.invariant
    ∙ ap (λ (it : Event). late_step c.args.id (take i story) (late_from c.args.id [] false (take i story)) it.kind) same
    ∙ sym (late_more c.args.id false story i event c.loop-i-test.true)
