use Rattle.std.proofs.Common.{sym, ◌∙◌, subst, eqb}
use Rattle.std.specs.List.{Contains}
use Rattle.std.specs.List.Sorted.{IsStrictlyIncreasing}
use Rattle.std.proofs.lemmas.List.Filters.{dedup_is}
use Rattle.std.proofs.lemmas.List.Kept.{Contains-dedup_nat, Contains-from_dedup}
use Rattle.std.proofs.lemmas.List.Sorted.{Contains-permutation, IsPermutation-sym}
use Rattle.std.proofs.lemmas.Map.Keys.{IsStrictlyIncreasing-dedup}
use Rattle.oz_service.proofs.all_locked.viewing.risen.Goals as goal

pub returns-clause-same : goal.returns-clause-same
returns-clause-same c =
    let e = c.of.ensures ∙ dedup_is eqb _ _ c.dedup.ensures.filtered in
    let moved = c.in_ok-sort.ensures.permutation in
    λ local. (
      λ has. Contains-permutation _ _ local (IsPermutation-sym _ _ moved) (Contains-from_dedup eqb _ local (subst (λ l. Contains l local) e has)),
      λ has. subst (λ l. Contains l local) (sym e) (Contains-dedup_nat _ local (Contains-permutation _ _ local moved has)),
    )

pub returns-clause-rising : goal.returns-clause-rising
returns-clause-rising c =
    subst IsStrictlyIncreasing (sym (c.of.ensures ∙ dedup_is eqb _ _ c.dedup.ensures.filtered)) (IsStrictlyIncreasing-dedup _ c.in_ok-sort.ensures.sorted)
