use Rattle.std.proofs.Common.{◌≡◌, ◌≢◌, ◌↔◌, ◌++◌, cond, List, [], Contains, ap, sym, ◌∙◌, subst, arith}
use Rattle.std.specs.List.{AllPairs}
use Rattle.oz_repl.specs.declared.repl.view.CopyOrder.{CopyOrder}
use Rattle.oz_core.specs.Law.{may_be_copied}
use Rattle.oz_repl.specs.repl.View.{IsDueCopy}
use Rattle.oz_repl.specs.repl.Listed.{copies}
use Rattle.oz_repl.proofs.Orders.{due_ones}
use Rattle.oz_repl.proofs.Once.{all_apart}
use Rattle.oz_repl.proofs.repl.copies.plan.Goals as goal
use Rattle.oz_repl.proofs.repl.copies.plan.Goals.{then-is_copied+in_ok-push_copies, else-is_copied}

items : (c : goal.Joined-is_copied) → c.if-is_copied.orders.items ≡ cond (may_be_copied c.args.view.now.state) (copies c.args.view.now) []
items c =
    elim c.if-is_copied.branch [
      | then-is_copied+in_ok-push_copies w ↦
          rw (← c.is_copied.ensures, w.if-is_copied.true)
          (ap (λ orders. orders.items) w.orders-is ∙ w.in_ok-push_copies.ensures
          ∙ ap (λ (l : List CopyOrder). l ++ copies c.args.view.now) c.new-orders.ensures.items)
      | else-is_copied w ↦ rw (← c.is_copied.ensures, w.if-is_copied.false) (ap (λ orders. orders.items) w.orders-is ∙ c.new-orders.ensures.items)
    ]

pub returns-clause-exact : goal.returns-clause-exact
returns-clause-exact c = λ order.
    subst (λ (l : List CopyOrder). Contains l order ↔ IsDueCopy c.args.view.now order) (sym (items c))
    (due_ones c.args.view.now (omega arith) (omega arith) order)

pub returns-clause-once : goal.returns-clause-once
returns-clause-once c = λ apart.
    subst (λ (l : List CopyOrder). AllPairs ◌≢◌ l) (sym (items c)) (all_apart c.args.view.now c.requires (omega arith)
    apart (may_be_copied c.args.view.now.state))
