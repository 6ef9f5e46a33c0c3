-- How many containers of a list are in a state, as a walk over it counts them.
use Rattle.std.proofs.Common.{◌≡◌, ℕ, zero, suc, ◌+◌, ◌≤◌, ◌<◌, Bool, true, false, cond, eqb, List, [], ◌∷◌, length, take, get_or, refl, sym, ap, subst, ◌∙◌, arith}
use Rattle.oz_container.specs.declared.state.State.{State}
use Rattle.oz_scm.specs.declared.grants.container.Container.{Container}
use Rattle.oz_scm.specs.grants.Counts.{count_in, place_of}

added_last : (b c : Bool) (n m : ℕ) → n ≡ cond b (suc m) m → cond c (suc n) n ≡ cond b (suc (cond c (suc m) m)) (cond c (suc m) m)
added_last true true n m is = ap suc is
added_last true false n m is = is
added_last false true n m is = ap suc is
added_last false false n m is = is

-- one more is looked at
count_more : (state : State) (l : List Container) (k : ℕ) (d : Container) → k < length l
    → count_in state (take (suc k) l) ≡ cond (eqb (place_of (get_or l k d).state) (place_of state)) (suc (count_in state (take k l))) (count_in state (take k l))
count_more state [] k d lt = absurd (omega (arith, lt))
count_more state (x ∷ l) zero d lt = refl
count_more state (x ∷ l) (suc k) d lt =
    added_last (eqb (place_of (get_or l k d).state) (place_of state)) (eqb (place_of x.state) (place_of state)) (count_in state (take (suc k) l)) (count_in state (take k l))
    (count_more state l k d (omega (arith, lt)))

least : (b : Bool) (n k : ℕ) → n ≤ k → cond b (suc n) n ≤ k + 1
least true n k le = omega (arith, le)
least false n k le = omega (arith, le)

pub counted_more : (state : State) (l items : List Container) (k : ℕ) (d : Container) (b : Bool) (before after : ℕ) → items ≡ l → k < length l → b ≡ eqb (place_of (get_or items k d).state) (place_of state) → after ≡ cond b (suc before) before
    → (before ≡ count_in state (take k l)) × (before ≤ k) → (after ≡ count_in state (take (k + 1) l)) × (after ≤ k + 1)
counted_more state l items k d b before after same lt test is kept =
    let next : suc k ≡ k + 1 = omega arith in
    let tested : b ≡ eqb (place_of (get_or l k d).state) (place_of state) = test ∙ ap (λ (i : List Container). eqb (place_of (get_or i k d).state) (place_of state)) same in (
      is ∙ (ap (λ (n : ℕ). cond b (suc n) n) kept.0 ∙ (ap (λ (b : Bool). cond b (suc (count_in state (take k l))) (count_in state (take k l))) tested
          ∙ (sym (count_more state l k d lt) ∙ ap (λ (n : ℕ). count_in state (take n l)) next))),
      subst (λ (n : ℕ). n ≤ k + 1) (sym is) (least b before k kept.1),
    )
