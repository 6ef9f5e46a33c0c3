use Rattle.std.proofs.Common.{sym, subst}
use Rattle.oz_scm_law.specs.Words.{IsSpentIn}
use Rattle.oz_scm_law.proofs.needed.is_spent_in.Goals as goal

pub returns-else-to-stripe : goal.returns-else-to-stripe
returns-else-to-stripe c =
    let spent = IsSpentIn c.args.opening.now c.args.story.now c.args.stripe c.args.exclude.now in (
      λ h. subst spent (sym c.in-Grant.is) (λ same. c.are_spent.ensures.0 h),
      λ is. c.are_spent.ensures.1 ((subst spent c.in-Grant.is is) c.if-to-stripe.false),
    )
