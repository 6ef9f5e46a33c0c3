-- What a search in rising numbers finds.
use Rattle.std.proofs.Common.{◌≡◌, ⊎_elim, ℕ, ◌<◌, ◌≤◌, true, ◌==◌, List, length, get_or, Result, Ok, Err, refl, sym, ◌∙◌, subst, arith}
use Rattle.std.proofs.lemmas.Bool.{cases_lt, eqb-true, eq-eqb, false_from_ne_true}
use Rattle.std.proofs.lemmas.List.{get_or_default}
use Rattle.std.proofs.lemmas.List.Folds.{Any-from_list_any, list_any-from_Any}
use Rattle.std.proofs.lemmas.List.Kept.{AllPairs-from_increasing}
use Rattle.std.proofs.lemmas.List.Sorted.{searched}
use Rattle.std.specs.List.{Any}
use Rattle.std.specs.List.Sorted.{IsBinarySearchResult, IsStrictlyIncreasing}
use Rattle.std.specs.Ordering.{nat_cmp}
use Rattle.std.specs.Result.{MatchResult, is_ok}
use Rattle.oz_repl.specs.repl.Listed.{is_among}

never_falls : (xs : List ℕ) → IsStrictlyIncreasing xs → (i j : ℕ) → i ≤ j → j < length xs → get_or xs i 0 ≤ get_or xs j 0
never_falls xs rises i j le lt = ⊎_elim
    (λ less. let below = AllPairs-from_increasing xs rises i j 0 less lt in omega (arith, below))
    (λ same. let one : i ≡ j = omega (arith, le, same) in subst (λ (k : ℕ). get_or xs i 0 ≤ get_or xs k 0) one (omega arith))
    (cases_lt i j)

pub found : (xs : List ℕ) (x : ℕ) (r : Result ℕ ℕ) → IsStrictlyIncreasing xs → IsBinarySearchResult (λ y. nat_cmp y x) xs r → is_ok r ≡ is_among xs x
found xs x r rises result = by r (searched xs x r result (never_falls xs rises))
  where
    by : (r : Result ℕ ℕ) → MatchResult r (λ i. (i < length xs) × (get_or xs i 0 ≡ x))
        (λ i. (i ≤ length xs) × ((k : ℕ) → k < i → get_or xs k 0 < x) × ((k : ℕ) → i ≤ k → k < length xs
        → x < get_or xs k 0)) → is_ok r ≡ is_among xs x
    by (Ok i) is =
        let at : get_or xs i x ≡ x = get_or_default xs i x 0 is.0 ∙ is.1 in
        sym (list_any-from_Any (λ it. it == x) xs (i, x, is.0, at, eq-eqb x x refl))
    by (Err i) is = sym (false_from_ne_true (is_among xs x) (λ any. none (Any-from_list_any (λ it. it == x) xs any)))
      where
        none : Any (λ it. (it == x) ≡ true) xs → ⊥
        none (k, it, lt, at, same) =
            let one : it ≡ x = eqb-true it x same in
            let here : get_or xs k 0 ≡ x = get_or_default xs k 0 it lt ∙ at ∙ one in
            ⊎_elim
            (λ low. let below = is.1 k low in omega (arith, below, here))
            (λ high. let above = is.2 k high lt in omega (arith, above, here))
            (cases_lt k i)
