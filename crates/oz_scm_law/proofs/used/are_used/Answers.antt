use Rattle.std.proofs.Common.{ℕ, ◌+◌, subst, below_more}
use Rattle.oz_core.specs.Manager.{IsUsed}
use Rattle.oz_scm_law.specs.Words.{block_at}
use Rattle.oz_scm_law.proofs.used.are_used.Goals as goal

pub loop-place-preserved : goal.loop-place-preserved
loop-place-preserved c =
    let used = subst (λ (n : ℕ). IsUsed c.args.opening.now c.args.story.now (block_at c.args.container n)) (λ i. c.from.ensures i + c.from-in-loop-place.ensures i) (c.is_used.ensures.0 c.if-not-is_used.false) in
    below_more (λ (k : ℕ). IsUsed c.args.opening.now c.args.story.now (block_at c.args.container (c.args.first + k))) c.loop-place.place c.loop-place.invariant used
