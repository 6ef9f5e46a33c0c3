use Rattle.std.proofs.Common.{◌∷◌, ◌++◌, [], ◌∙◌, sym, ap}
use Rattle.oz_at_work.specs.servers.Begun.{nodes_of}
use Rattle.oz_at_work.proofs.servers_lemmas.Placed.{map_push}
use Rattle.oz_at_work.proofs.servers.seating.+unseat_below.Goals as goal

pub returns-clause-nodes : goal.returns-clause-nodes
returns-clause-nodes g t c =
    c.push_reserved.ensures.items
    ∙ (ap (λ l. l ++ c.into_parts-node.result.0 ∷ []) c.unseat_below.ensures.nodes
    ∙ (ap (λ n. nodes_of c.pop.new.self.items ++ n ∷ []) c.into_parts-node.ensures.node
    ∙ sym (map_push (λ cell. cell.node) c.args.cells.now.items c.pop.new.self.items c.in-Some.cell c.in-Some.ensures.items)))
