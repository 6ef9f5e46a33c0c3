use Rattle.std.proofs.Common.{sym, ◌∙◌, arith}
use Rattle.std.proofs.lemmas.List.{take_rest}
use Rattle.oz_node_law.proofs.Gave.{gave, gave_by}
use Rattle.oz_node_law.proofs.granted.granted_place.Goals as goal

pub returns-then-gives : goal.returns-then-gives
returns-then-gives c =
    let gives = simp take_rest at c.gives.ensures in
    (omega arith, gave c.args.id c.args.block c.args.story.now c.loop-place.place c.index-story-place.result c.loop-place-test.true c.index-story-place.is (sym gives ∙ c.if-gives.true))

pub loop-place-preserved : goal.loop-place-preserved
loop-place-preserved c =
    let gives = simp take_rest at c.gives.ensures in
    gave_by c.args.id c.args.block c.args.story.now c.loop-place.place c.index-story-place.result c.index-story-place.is (sym gives ∙ c.if-gives.false) c.loop-place.invariant
