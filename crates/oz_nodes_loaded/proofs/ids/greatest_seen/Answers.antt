use Rattle.std.proofs.Common.{ℕ, List, [], ◌∷◌, ◌++◌, ◌≡◌, ◌∙◌, ◌+◌, ap, map, subst, sym, take}
use Rattle.std.proofs.lemmas.List.{map_more}
use Rattle.oz_datanode.specs.Datanode.{State, node_in}
use Rattle.oz_entries.specs.Node.{Node}
use Rattle.oz_nodes_loaded.specs.Ids.{IsGreatestSeen}
use Rattle.oz_nodes_loaded.proofs.Seen.{seen_first, seen_more}
use Rattle.oz_nodes_loaded.proofs.ids.greatest_seen.Goals as goal

pub loop-node-init : goal.loop-node-init
loop-node-init g c = seen_first c.args.greatest

pub loop-node-preserved : goal.loop-node-preserved
loop-node-preserved g c =
    let nodes = c.args.nodes.now in
    let node = c.node-item.result in
    let before = map node_in (take c.loop-node.node-index nodes) in
    let split : map node_in (take (c.loop-node.node-index + 1) nodes) ≡ before ++ node_in node ∷ [] =
    map_more node_in nodes c.loop-node.node-index node c.loop-node-test.true
    ∙ ap (λ (other : State g.row.D.Denot). before ++ node_in other ∷ []) (sym c.node-item.is) in
    subst (λ (all : List Node). IsGreatestSeen c.args.greatest all c.max-seen.result) (sym split) (subst (λ (id : ℕ). IsGreatestSeen c.args.greatest (before ++ node_in node ∷ []) id) (sym c.max-seen.ensures) (seen_more c.args.greatest before c.loop-node.seen (node_in node) c.greatest_id.result c.loop-node.invariant c.greatest_id.ensures))
