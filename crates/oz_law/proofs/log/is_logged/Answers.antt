use Rattle.std.proofs.Common.{Bool, ◌||◌, sym, ◌∙◌, ap}
use Rattle.oz_core.specs.Scm.{names_block}
use Rattle.oz_law.proofs.Logs.{has_log}
use Rattle.oz_law.proofs.log.is_logged.Goals as goal

pub returns-then-was : goal.returns-then-was
returns-then-was c = c.if-was.true ∙ ap (λ (b : Bool). b || c.came_logged-came.result) (sym c.if-was.true) ∙ has_log (names_block c.args.block) c.args.opening.now c.args.story.now _ _ c.was_logged-was.ensures c.came_logged-came.ensures

pub returns-else-was : goal.returns-else-was
returns-else-was c = ap (λ (b : Bool). b || c.came_logged-came.result) (sym c.if-was.false) ∙ has_log (names_block c.args.block) c.args.opening.now c.args.story.now _ _ c.was_logged-was.ensures c.came_logged-came.ensures
