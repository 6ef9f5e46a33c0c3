use Rattle.std.proofs.Common.{◌≡◌, ◌∙◌, [], sym, ap, take, get_or, rules}
use Rattle.oz_namespace.specs.declared.namespace.Namespace.{Namespace}
use Rattle.oz_core.specs.declared.event.Event.{Event}
use Rattle.oz_core.specs.Manager.{namespace_from, namespace_step}
use Rattle.oz_replay.specs.Words.{is_counted}
use Rattle.oz_replay.specs.laws.Replays.{namespace_more}
use Rattle.oz_replay.proofs.replay.replayed.Goals as goal

pub loop-i-init : goal.loop-i-init
unfolding namespace_from
loop-i-init c = c.in_ok-namespace.ensures

pub loop-i-preserved : goal.loop-i-preserved
loop-i-preserved c =
    let story = c.args.story.now in
    let event = c.index-story-i.result in
    let i = c.loop-i.i in
    let same : event ≡ get_or story i event = search rules in
    c.in_ok-namespace-2.ensures
    ∙ ap (λ (n : Namespace). namespace_step (is_counted c.args.most) (take i story) n event.kind) c.loop-i.invariant
    ∙ ap (λ (it : Event). namespace_step (is_counted c.args.most) (take i story) (namespace_from (is_counted c.args.most) [] c.args.opening.now.namespace (take i story)) it.kind) same
    ∙ sym (namespace_more (is_counted c.args.most) c.args.opening.now.namespace story i event c.loop-i-test.true)
