-- Rows that changes leave as they were, or make.
use Rattle.std.proofs.Common.{◌≡◌, ◌⊎◌, inl, inr, ⊎_elim, ℕ, Bool, true, false, List, [], ◌∷◌, Option, Some, cond, refl, sym, ◌∙◌, ap, subst}
use Rattle.std.specs.List.{AllByRecursion}
use Rattle.oz_reclaim.specs.Origins.{ChangesSnapshot, IsTidy, SnapshotKeysStay}
use Rattle.oz_rows.specs.declared.key.RowKey.{RowKey}
use Rattle.oz_rows.specs.declared.key.RowKey.TheVariants as keys
use Rattle.oz_rows.specs.declared.operation.Change.{Change}
use Rattle.oz_rows.specs.declared.row.Row.{Row}
use Rattle.oz_rows.specs.RowMaps.{Rows, after_changes, is_same, row_after}
use Rattle.oz_rows.specs.laws.Same.{same_is_one}

-- what a change gives a key, where it gives it a row
abbrev pub Gives : (RowKey → Row → Type 0) → Change → Type 0
Gives P change = (row : Row) → change.row ≡ Some row → P change.key row

-- a row was there, or one of the changes gave it
pub was_or_given : (P : RowKey → Row → Type 0) (changes : List Change) → AllByRecursion (Gives P) changes → (q : RowKey) (before : Option Row) (row : Row)
    → row_after changes q before ≡ Some row → (before ≡ Some row) ⊎ P q row
was_or_given P [] each q before row e = inl e
was_or_given P (change ∷ changes) each q before row e =
    ⊎_elim (λ was. by (is_same change.key q) refl was) inr (was_or_given P changes each.1 q (cond (is_same change.key q) change.row before) row e)
  where
    by : (t : Bool) → is_same change.key q ≡ t → cond (is_same change.key q) change.row before ≡ Some row → (before ≡ Some row) ⊎ P q row
    by true same was = inr (subst (λ k. P k row) (same_is_one change.key q same) (each.0 row (sym (ap (λ (t : Bool). cond t change.row before) same) ∙ was)))
    by false other was = inl (sym (ap (λ (t : Bool). cond t change.row before) other) ∙ was)

-- where a snapshot's row doesn't change, its keys stay
module _ (changes : List Change) (v b k : List ℕ) (n : ℕ) (stays : ChangesSnapshot changes v b n → ⊥) where
  abbrev place : RowKey
  place = keys.SnapshotKey v b n k

  none_is : (l : List Change) → AllByRecursion (λ (change : Change). IsTidy changes change.key) l → (row : Option Row) → row_after l place row ≡ row
  none_is [] each row = refl
  none_is (change ∷ l) each row = none_is l each.1 (cond (is_same change.key place) change.row row)
      ∙ ap (λ (t : Bool). cond t change.row row) (other (is_same change.key place) refl)
    where
      other : (t : Bool) → is_same change.key place ≡ t → is_same change.key place ≡ false
      other false e = e
      other true e = absurd (stays (subst (IsTidy changes) (same_is_one change.key place e) each.0))

  pub snapshot_keys_stay : SnapshotKeysStay changes → (all : Rows) → after_changes changes all place ≡ all place
  snapshot_keys_stay tidy all = none_is changes tidy (all place)
