use Rattle.std.proofs.Common.{List, ◌++◌, ◌∙◌, ap, [], arith}
use Rattle.std.proofs.lemmas.List.{get_or_default}
use Rattle.oz_repl.specs.declared.repl.view.CopyOrder.{CopyOrder}
use Rattle.oz_repl.proofs.Orders.{all_from}
use Rattle.oz_repl.proofs.repl.copies.push_copies_from.Goals as goal

pub returns : goal.returns
returns c =
    c.loop-local.invariant
    ∙ ap (λ (l : List CopyOrder). c.args.orders.now.items ++ l)
    (all_from c.args.view.now c.args.from c.items-local-items.result.now c.loop-local.local-index c.loop-local-test.false
    (c.items-local-items.ensures ∙ get_or_default c.args.view.now.held c.args.from c.index-view-from.result [] (omega arith)))
