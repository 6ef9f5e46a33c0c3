use Rattle.std.proofs.Common.{◌<◌, ◌∙◌, List, length, get_or, ap, subst}
use Rattle.oz_core.specs.declared.opening.NodeOpening.{NodeOpening}
use Rattle.oz_scm_law.specs.Words.{HadWanted}
use Rattle.oz_scm_law.proofs.Each.{each_more}
use Rattle.oz_scm_law.proofs.held.were_wanted.Goals as goal

pub loop-node-preserved : goal.loop-node-preserved
loop-node-preserved c =
    let i = c.loop-node.node-index in
    let x = c.node-item.result in
    each_more (HadWanted c.args.opening.now c.args.story.now c.args.number c.args.wanted) c.args.opening.now.nodes i x
    (subst (λ (nodes : List NodeOpening). i < length nodes) c.items-node-items.ensures c.loop-node-test.true)
    (c.node-item.is ∙ ap (λ (nodes : List NodeOpening). get_or nodes i x) c.items-node-items.ensures)
    c.loop-node.invariant (c.had_wanted.ensures.0 c.if-not-had_wanted.false)
