-- A legal story that goes on.
use Rattle.std.proofs.Common.{◌≡◌, ℕ, ◌+◌, List, [], ◌∷◌, ◌++◌, length, take, zero, suc, Option, Some, refl, sym, ◌∙◌, ap, subst, append-nil, append_assoc, arith}
use Rattle.std.specs.List.{slice_get}
use Rattle.oz_core.specs.declared.event.Event.{Event}
use Rattle.oz_core.specs.declared.opening.Opening.{Opening}
use Rattle.oz_core.specs.Law.{IsEnabled, IsLegal, IsLegalFrom}

goes_on : (opening : Opening) (before story : List Event) (event : Event) → IsLegalFrom opening before story → IsEnabled opening (before ++ story) event → IsLegalFrom opening before (story ++ event ∷ [])
unfolding IsLegalFrom
goes_on opening before [] event legal is = (subst (λ (b : List Event). IsEnabled opening b event) (append-nil before) is, tt)
goes_on opening before (first ∷ story) event legal is =
    (legal.0, goes_on opening (before ++ first ∷ []) story event legal.1 (subst (λ (b : List Event). IsEnabled opening b event) (sym (append_assoc before (first ∷ []) story)) is))

-- a front of a list that grows by the element at its end
one_more : {X : Type 0} (xs : List X) (n : ℕ) (x : X) → slice_get xs n ≡ Some x → take (suc n) xs ≡ take n xs ++ x ∷ []
one_more [] n x is = absurd (cc)
one_more {X = X} (y ∷ xs) zero x is = ap (λ (z : X). z ∷ []) (cc)
one_more {X = X} (y ∷ xs) (suc n) x is = ap (λ (l : List X). y ∷ l) (one_more xs n x is)

pub legal_further : (opening : Opening) (story : List Event) (place : ℕ) (event : Event) → slice_get story place ≡ Some event → IsLegal opening (take place story) → IsEnabled opening (take place story) event → IsLegal opening (take (place + 1) story)
legal_further opening story place event there legal is =
    let next : place + 1 ≡ suc place = omega arith in
    subst (IsLegal opening) (sym (ap (λ (n : ℕ). take n story) next ∙ one_more story place event there)) (goes_on opening [] (take place story) event legal is)

pub nothing_is_legal : (opening : Opening) → IsLegal opening []
unfolding IsLegalFrom
nothing_is_legal opening = tt
