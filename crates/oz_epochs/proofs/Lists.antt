-- A place of a list, after another item was put at a place, or one at the end.
use Rattle.std.proofs.Common.{◌≡◌, ◌≢◌, ℕ, zero, suc, ◌<◌, ◌≤◌, List, [], ◌∷◌, ◌++◌, length, set, get_or, refl, sym, ◌∙◌, subst, inl, inr, Some}
use Rattle.std.proofs.lemmas.List.{length-set, get_or-set_same, get_or-set_other}
use Rattle.std.proofs.lemmas.Option.{slice_get_read, slice_get_past, slice_get_cases}
use Rattle.std.specs.List.{slice_get}

module _ {X : Type 0} where
  read : (xs : List X) (i j : ℕ) (v x : X) → j < length xs → get_or (set xs i v) j x ≡ x → slice_get (set xs i v) j ≡ Some x
  read xs i j v x within is =
      slice_get_read (set xs i v) (length xs) j x (sym (length-set xs i v)) within (sym is)

  pub slice_get-set_same : (xs : List X) (i : ℕ) (v : X) → i < length xs → slice_get (set xs i v) i ≡ Some v
  slice_get-set_same xs i v within = read xs i i v v within (get_or-set_same xs i v v within)

  pub slice_get-set_other : (xs : List X) (i j : ℕ) (v : X) → i ≢ j → slice_get (set xs i v) j ≡ slice_get xs j
  slice_get-set_other xs i j v apart = elim (slice_get_cases xs j).1 [
    | inl there ↦ read xs i j v there.0 there.1 (get_or-set_other xs i j v there.0 (λ e. apart (sym e)) ∙ there.3) ∙ sym there.2
    | inr past ↦ slice_get_past (set xs i v) j (subst (λ (n : ℕ). n ≤ j) (sym (length-set xs i v)) past.0) ∙ sym past.1
  ]

  pub slice_get-front : (xs ys : List X) (i : ℕ) (v : X) → slice_get xs i ≡ Some v → slice_get (xs ++ ys) i ≡ Some v
  slice_get-front [] ys i v h = cc
  slice_get-front (x ∷ xs) ys zero v h = h
  slice_get-front (x ∷ xs) ys (suc i) v h = slice_get-front xs ys i v h

  pub slice_get-end : (xs : List X) (v : X) → slice_get (xs ++ v ∷ []) (length xs) ≡ Some v
  slice_get-end [] v = refl
  slice_get-end (x ∷ xs) v = slice_get-end xs v
