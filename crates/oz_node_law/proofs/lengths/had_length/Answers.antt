use Rattle.std.proofs.Common.{◌≡◌, ℕ, ◌<◌, List, length, take, get_or, Option, sym, ◌∙◌, ap, subst}
use Rattle.std.specs.List.{flat_map}
use Rattle.std.specs.Option.{option_or}
use Rattle.oz_core.specs.declared.opening.NodeOpening.{NodeOpening}
use Rattle.oz_core.specs.Nodes.{length_in}
use Rattle.oz_core.specs.Stories.{first_in}
use Rattle.oz_node_law.proofs.Firsts.{first-flat}
use Rattle.oz_node_law.proofs.lengths.had_length.Goals as goal

pub loop-node-preserved : goal.loop-node-preserved
loop-node-preserved c =
    let nodes : List NodeOpening = c.args.opening.now.nodes in
    let i = c.loop-node.node-index in
    let x = c.node-item.result in
    let so_far : Option ℕ = first_in (flat_map (length_in c.args.block) (take i nodes)) in
    let is : x ≡ get_or nodes i x = c.node-item.is ∙ ap (λ (ns : List NodeOpening). get_or ns i x) c.items-node-items.ensures in
    c.or-length.ensures
    ∙ (ap (λ (o : Option ℕ). option_or o c.length_in.result) c.loop-node.invariant
    ∙ (ap (option_or so_far) (c.length_in.ensures ∙ ap (λ (n : NodeOpening). first_in (length_in c.args.block n)) is)
    ∙ sym (first-flat (length_in c.args.block) nodes i x (subst (λ (ns : List NodeOpening). i < length ns) c.items-node-items.ensures c.loop-node-test.true))))
