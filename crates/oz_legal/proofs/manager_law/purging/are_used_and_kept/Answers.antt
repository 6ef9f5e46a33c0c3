use Rattle.std.proofs.Common.{◌↔◌, ℕ, All, IfOk, IsTrue, subst}
use Rattle.oz_core.specs.Manager.{WasUsed, kept_block}
use Rattle.oz_core.specs.Stories.{all_told}
use Rattle.oz_legal.proofs.manager_law.purging.are_used_and_kept.Goals as goal

pub returns : goal.returns
returns c =
    subst (λ (most : ℕ). IfOk c.are_used_up_to.result (λ are. IsTrue are ↔ All (WasUsed c.args.opening.now (all_told (kept_block most) c.args.story.now)) c.args.blocks.now))
    c.durable_index.ensures c.are_used_up_to.ensures
