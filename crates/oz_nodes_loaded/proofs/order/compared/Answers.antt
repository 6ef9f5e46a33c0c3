use Rattle.std.proofs.Common.{List, map, refl, sym, subst, arith}
use Rattle.oz_datanode.specs.Datanode.{State, node_in}
use Rattle.oz_nodes_loaded.specs.Ids.{IsSeen}
use Rattle.oz_nodes_loaded.proofs.order.compared.Goals as goal

pub returns-then-seen-next-clause-agrees : goal.returns-then-seen-next-clause-agrees
returns-then-seen-next-clause-agrees g c = record {
  scm_same = refl;
  nodes_same = refl;
  below = λ id is.
      let most = c.greatest_seen-seen.ensures.none_above id (subst (λ (l : List (State g.row.D.Denot)). IsSeen c.args.greatest (map node_in l) id) (sym c.deref.ensures.value) is) in
      omega (arith, most, c.if-seen-next.true, c.next_id-next.ensures);
}
