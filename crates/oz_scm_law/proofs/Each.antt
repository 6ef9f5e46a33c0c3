-- A loop over a list that tests each element.
use Rattle.std.proofs.Common.{◌≡◌, ℕ, ◌+◌, ◌<◌, ◌≤◌, List, length, get_or, sym, ◌∙◌, subst, arith, below_more}
use Rattle.std.proofs.lemmas.List.{get_or_default}
use Rattle.std.specs.List.{Any}

-- what holds of each element so far, and of the next
pub each_more : {X : Type 0} (P : X → Type 0) (xs : List X) (i : ℕ) (x : X) → i < length xs → x ≡ get_or xs i x → ((k : ℕ) (d : X) → k < i → P (get_or xs k d)) → P x → (k : ℕ) (d : X) → k < i + 1 → P (get_or xs k d)
each_more P xs i x within is before here k d below =
    below_more (λ (k : ℕ). P (get_or xs k d)) i (λ k less. before k d less) (subst P (is ∙ get_or_default xs i x d within) here) k below

-- what holds of none of all
pub none : {X : Type 0} (P : X → Type 0) (xs : List X) (i : ℕ) → length xs ≤ i → ((k : ℕ) (d : X) → k < i → P (get_or xs k d) → ⊥) → Any P xs → ⊥
none P xs i all before any =
    let less : any.0 < i = omega (arith, all, any.2) in
    before any.0 any.1 less (subst P (sym any.3) any.4)
