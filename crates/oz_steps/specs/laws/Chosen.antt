-- What is taken of a list that passes two tests.
use Rattle.std.proofs.Common.{◌≡◌, ◌∷◌, List, Bool, true, false, filter, refl}

pub taken-one : {X : Type 0} (p : X → Bool) (x : X) (xs : List X) → p x ≡ true → filter p (x ∷ xs) ≡ x ∷ filter p xs
taken-one p x xs is = rw is refl

pub left-one : {X : Type 0} (p : X → Bool) (x : X) (xs : List X) → p x ≡ false → filter p (x ∷ xs) ≡ filter p xs
left-one p x xs is = rw is refl
