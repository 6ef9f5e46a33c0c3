-- What puts of some rows lead to, and lists that grow by one.
use Rattle.std.proofs.Common.{◌≡◌, ℕ, zero, suc, Bool, true, false, List, [], ◌∷◌, ◌++◌, length, slice_get, Option, None, Some, cond, refl, sym, ◌∙◌, ap, subst}
use Rattle.oz_rows.specs.declared.key.RowKey.{RowKey}
use Rattle.oz_rows.specs.declared.row.Row.{Row}
use Rattle.oz_rows.specs.declared.entry.RowEntry.{RowEntry}
use Rattle.oz_rows.specs.RowMaps.{row_of, row_after, is_same, KeysRise}
use Rattle.oz_rows.specs.laws.Order.{equal_from_test}
use Rattle.oz_rows.specs.laws.Lookups.{entry_key, row_above}
use Rattle.oz_rows.specs.laws.Rising.{over_same}
use Rattle.oz_sound.specs.stripes.Parts.{part_of}
use Rattle.oz_sound.specs.stripes.Stripes.{is_own, only}
use Rattle.oz_sound.specs.stripes.laws.Lists.{part_rises, row_of_part}
use Rattle.oz_loaded.specs.Walks.{puts_of}

over : Option Row → Option Row → Option Row
over None before = before
over (Some row) before = Some row

over_none : (row : Option Row) → over row None ≡ row
unfolding over
over_none None = refl
over_none (Some row) = refl

leads_to : (l : List RowEntry) (q : RowKey) (before : Option Row) → KeysRise l → row_after (puts_of l) q before ≡ over (row_of l q) before
unfolding over
leads_to [] q before rise = refl
leads_to (x ∷ l) q before rise = leads_to l q (cond (is_same x.key q) (Some x.row) before) rise.1 ∙ by (is_same x.key q) refl
  where
    by : (t : Bool) → is_same x.key q ≡ t → over (row_of l q) (cond (is_same x.key q) (Some x.row) before) ≡ over (cond (is_same x.key q) (Some x.row) (row_of l q)) before
    by true e =
        let none = row_above l q (over_same entry_key x q l (equal_from_test _ e) rise.0) in
        ap (λ (t : Bool). over (row_of l q) (cond t (Some x.row) before)) e ∙ ap (λ (row : Option Row). over row (Some x.row)) none
        ∙ sym (ap (λ (t : Bool). over (cond t (Some x.row) (row_of l q)) before) e)
    by false e = ap (λ (t : Bool). over (row_of l q) (cond t (Some x.row) before)) e ∙ sym (ap (λ (t : Bool). over (cond t (Some x.row) (row_of l q)) before) e)

-- puts of the rows of a stripe, over none
pub puts_part : (stripe : ℕ) (all : List RowEntry) (q : RowKey) → KeysRise all → row_after (puts_of (part_of (is_own stripe) all)) q None ≡ only stripe (row_of all) q
puts_part stripe all q rise = leads_to (part_of (is_own stripe) all) q None (part_rises (is_own stripe) all rise) ∙ over_none _ ∙ row_of_part (is_own stripe) all q

-- what holds of each item at its place, after one more
pub pushed : {X : Type 0} (P : ℕ → X → Type 0) (xs : List X) (x : X) → ((n : ℕ) (y : X) → slice_get xs n ≡ Some y → P n y) → P (length xs) x
    → (n : ℕ) (y : X) → slice_get (xs ++ x ∷ []) n ≡ Some y → P n y
pushed P [] x each one zero y is = subst (P zero) (cc is) one
pushed P [] x each one (suc n) y is = absurd (cc is)
pushed P (z ∷ xs) x each one zero y is = each zero y is
pushed P (z ∷ xs) x each one (suc n) y is = pushed (λ n. P (suc n)) xs x (λ n. each (suc n)) one n y is
