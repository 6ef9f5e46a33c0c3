use Rattle.std.proofs.Common.{List, ap, arith}
use Rattle.std.proofs.lemmas.List.{take_rest, drop_all}
use Rattle.oz_core.specs.declared.event.Event.{Event}
use Rattle.oz_core.specs.Stories.{all_told}
use Rattle.oz_node_law.specs.Words.{given, held_slots, taken_slots}
use Rattle.oz_node_law.proofs.Slots.{event_left}
use Rattle.oz_node_law.proofs.room.left_by_events.Goals as goal

pub returns-then-left-slots : goal.returns-then-left-slots
returns-then-left-slots c =
    let step = event_left (held_slots c.args.opening.now c.args.story.now c.args.dn) c.args.dn c.args.story.now c.loop-place.place c.index-story-place.result c.given_slots-slots.result c.loop-place-test.true c.index-story-place.is (simp take_rest at c.given_slots-slots.ensures) in
    omega (arith, step, c.loop-place.invariant)

pub loop-place-preserved : goal.loop-place-preserved
loop-place-preserved c =
    let step = event_left (held_slots c.args.opening.now c.args.story.now c.args.dn) c.args.dn c.args.story.now c.loop-place.place c.index-story-place.result c.given_slots-slots.result c.loop-place-test.true c.index-story-place.is (simp take_rest at c.given_slots-slots.ensures) in
    omega (arith, step, c.loop-place.invariant)

pub returns : goal.returns
returns c =
    let done = ap (λ (s : List Event). taken_slots c.args.opening.now c.args.story.now c.args.dn (all_told (given c.args.dn) s)) (drop_all c.loop-place.place c.args.story.now (omega arith)) in
    omega (arith, done, c.loop-place.invariant)
