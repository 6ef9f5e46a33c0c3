use Rattle.std.proofs.Common.{⊎_elim, inl, inr}
use Rattle.oz_scm_law.specs.Words.{block_at}
use Rattle.oz_scm_law.proofs.used.is_used.Goals as goal

pub returns : goal.returns
returns c =
    let here = c.requires (block_at c.args.container c.args.local) in (
      λ h. ⊎_elim (λ it. inl (here.0 it)) (λ rest. inr rest) (c.is_among.ensures.0 h),
      λ is. c.is_among.ensures.1 (⊎_elim (λ it. inl (here.1 it)) (λ rest. inr rest) is),
    )
