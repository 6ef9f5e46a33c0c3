use Rattle.std.proofs.Common.{ℕ, List, ◌+◌, ◌<◌, subst, take, length, get_or, arith}
use Rattle.std.proofs.lemmas.List.{take_all}
use Rattle.oz_entries.specs.Node.{Node, without, names_some, is_same_block}
use Rattle.oz_entries.specs.Held.{node_of, AreSame}
use Rattle.oz_entries.specs.laws.Nodes.{same_node, same_then, twice, named_more, without_none}
use Rattle.oz_entries.proofs.held.Held.forget_locals.Goals as goal

pub loop-local-init : goal.loop-local-init
loop-local-init c = record { same = without_none c.args.container (node_of c.args.self.now); named = λ other named. named }

pub loop-local-preserved : goal.loop-local-preserved
loop-local-preserved c =
    let i = c.loop-local.local-index in
    let locals = c.args.locals.now in
    let container = c.args.container in
    let before = node_of c.args.self.now in
    let less : i < length locals = omega arith in
    record {
      same = same_then (without (names_some container (take (i + 1) locals)) before) (without (is_same_block (record { container = container; local = get_or locals i 0 })) (without (names_some container (take i locals)) before)) (node_of c.forget.new.self)
          (twice (names_some container (take i locals)) (is_same_block (record { container = container; local = get_or locals i 0 })) (names_some container (take (i + 1) locals)) before (named_more container locals i 0 less))
          (subst (λ (node : Node). AreSame (without (is_same_block (record { container = container; local = get_or locals i 0 })) node) (node_of c.forget.new.self)) (same_node (without (names_some container (take i locals)) before) (node_of c.loop-local.self) c.loop-local.invariant.same) c.forget.ensures.same);
      named = λ other named. c.forget.ensures.named other (c.loop-local.invariant.named other named);
    }

pub returns : goal.returns
returns c = record {
  same = subst (λ (l : List ℕ). AreSame (without (names_some c.args.container l) (node_of c.args.self.now)) (node_of c.loop-local.self)) (take_all c.loop-local.local-index c.args.locals.now (omega arith)) c.loop-local.invariant.same;
  named = c.loop-local.invariant.named;
}
