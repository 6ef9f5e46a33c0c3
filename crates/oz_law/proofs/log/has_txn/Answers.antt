use Rattle.std.proofs.Common.{Bool, ◌||◌, sym, ◌∙◌, ap}
use Rattle.oz_law.specs.Words.{is_txn}
use Rattle.oz_law.proofs.Logs.{has_log}
use Rattle.oz_law.proofs.log.has_txn.Goals as goal

pub returns-then-was : goal.returns-then-was
returns-then-was c = c.if-was.true ∙ ap (λ (b : Bool). b || c.came_txn-came.result) (sym c.if-was.true) ∙ has_log (is_txn c.args.number c.args.of) c.args.opening.now c.args.story.now _ _ c.was_txn-was.ensures c.came_txn-came.ensures

pub returns-else-was : goal.returns-else-was
returns-else-was c = ap (λ (b : Bool). b || c.came_txn-came.result) (sym c.if-was.false) ∙ has_log (is_txn c.args.number c.args.of) c.args.opening.now c.args.story.now _ _ c.was_txn-was.ensures c.came_txn-came.ensures
