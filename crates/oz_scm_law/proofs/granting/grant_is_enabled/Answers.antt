use Rattle.std.proofs.Common.{List, sym, subst}
use Rattle.oz_fields.specs.declared.block.Block.{Block}
use Rattle.oz_scm_law.specs.Words.{AreReached}
use Rattle.oz_scm_law.proofs.granting.grant_is_enabled.Goals as goal

pub may_grant-requires-clause-reached : goal.may_grant-requires-clause-reached
may_grant-requires-clause-reached c = subst (λ (blocks : List Block). AreReached c.args.opening.now blocks) (sym c.deref.ensures.value) c.in_ok-reached.ensures.reached
