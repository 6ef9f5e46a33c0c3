use Rattle.oz_scm_law.proofs.Asked.{spent, spent-each}
use Rattle.oz_scm_law.proofs.needed.is_spent.Goals as goal

pub returns : goal.returns
returns c =
    let opening = c.args.opening.now in
    let story = c.args.story.now in (
      λ h. spent opening story c.args.stripe c.args.exclude.now (c.all_spent.ensures.0 h),
      λ is. c.all_spent.ensures.1 (spent-each opening story c.args.stripe c.args.exclude.now is),
    )
