use Rattle.oz_scm_law.proofs.Asked.{needed, needed-finds}
use Rattle.oz_scm_law.proofs.needed.is_needed.Goals as goal

pub returns : goal.returns
returns c =
    let opening = c.args.opening.now in
    let story = c.args.story.now in (
      λ h. needed opening story c.args.stripe c.args.container c.args.pipeline (c.any_needs.ensures.0 h),
      λ is. c.any_needs.ensures.1 (needed-finds opening story c.args.stripe c.args.container c.args.pipeline is),
    )
