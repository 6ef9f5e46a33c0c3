use Rattle.std.proofs.Common.{slice_index_or}
use Rattle.oz_fields.specs.declared.block.Block.{Block}
use Rattle.oz_core.specs.Manager.{kept_block}
use Rattle.oz_core.specs.Stories.{all_told}
use Rattle.oz_replay.proofs.Among.{among_used}
use Rattle.oz_replay.proofs.used.are_used_up_to.Goals as goal

pub returns : goal.returns
returns c =
    let both = λ (block : Block). among_used c.deref.result.now c.in_ok-had.had.items c.args.opening.now (all_told (kept_block c.args.most) c.args.story.now) block c.deref.ensures.value c.in_ok-had.ensures.reached in
    let blocks = c.args.blocks.now in (
      λ h k d below. (both (slice_index_or blocks k d)).0 (c.are_among.ensures.0 h k d below),
      λ all. c.are_among.ensures.1 (λ k d below. (both (slice_index_or blocks k d)).1 (all k d below)),
    )
