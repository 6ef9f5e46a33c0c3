use Rattle.std.proofs.Common.{ℕ, Option, take, sym, ◌∙◌, ap}
use Rattle.std.specs.Option.{option_or}
use Rattle.oz_core.specs.declared.event.Event.{Event}
use Rattle.oz_core.specs.Nodes.{put_length}
use Rattle.oz_core.specs.Stories.{all_told, first_in}
use Rattle.oz_node_law.proofs.Firsts.{first-told}
use Rattle.oz_node_law.proofs.lengths.came_length.Goals as goal

pub loop-event-preserved : goal.loop-event-preserved
loop-event-preserved c =
    let so_far : Option ℕ = first_in (all_told (put_length c.args.block) (take c.loop-event.event-index c.args.story.now)) in
    c.or-length.ensures
    ∙ (ap (λ (o : Option ℕ). option_or o c.put_length.result) c.loop-event.invariant
    ∙ (ap (option_or so_far) (c.put_length.ensures ∙ ap (λ (e : Event). put_length c.args.block e.kind) c.event-item.is)
    ∙ sym (first-told (λ (event : Event). put_length c.args.block event.kind) c.args.story.now c.loop-event.event-index c.event-item.result c.loop-event-test.true)))
