use Rattle.oz_core.specs.Manager.{granted_block}
use Rattle.oz_core.specs.Stories.{all_told}
use Rattle.oz_replay.proofs.Among.{among_used}
use Rattle.oz_replay.proofs.used.is_used.Goals as goal

pub returns : goal.returns
returns c =
    let both = among_used c.deref.result.now c.in_ok-had.had.items c.args.opening.now (all_told granted_block c.args.story.now) c.args.block c.deref.ensures.value c.in_ok-had.ensures.reached in
    (λ h. both.0 (c.is_among.ensures.0 h), λ is. c.is_among.ensures.1 (both.1 is))
