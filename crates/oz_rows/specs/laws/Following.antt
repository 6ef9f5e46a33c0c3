-- Which key is the next one of a kind.
use Rattle.std.proofs.Common.{◌≡◌, ℕ, zero, suc, ◌<◌, ◌≤◌, Bool, true, false, List, [], ◌∷◌, length, take, drop}
use Rattle.std.proofs.Common.{drop-cons, get_or, Some, IsSome, cond, refl, sym, ◌∙◌, ap, subst, arith}
use mathlib.Core.Bool.{false≢true}
use Rattle.std.specs.List.{AllByRecursion}
use Rattle.std.specs.Ordering.{is_eq, is_le, is_gt}
use Rattle.std.specs.declared.cmp.Ordering.{Ordering}
use Rattle.std.specs.declared.cmp.Ordering.TheVariants.{Less, Equal, Greater}
use Rattle.oz_rows.specs.declared.key.RowKey.{RowKey}
use Rattle.oz_rows.specs.Rows.{kind_of}
use Rattle.oz_rows.specs.Order.{key_order}
use Rattle.oz_rows.specs.declared.entry.RowEntry.{RowEntry}
use Rattle.oz_rows.specs.RowMaps.{row_of, is_same, KeysRise, IsBelow, IsAbove, IsNext, HasNoNext}
use Rattle.oz_rows.specs.laws.Splits.{parts}
use Rattle.oz_rows.specs.laws.Order.{key_order_total, equal_from_test, alike, alike_left, above_below, below_above}
use Rattle.oz_rows.specs.laws.Order.{kinds_rise, itself}
use Rattle.oz_rows.specs.laws.Lookups.{entry_key, AllBelow, AllAbove, row_behind}
use Rattle.oz_rows.specs.laws.Rising.{rise_rest}

-- a key that has a row among greater ones is greater
pub found_over : (key q : RowKey) (b : List RowEntry) → AllByRecursion (λ other. IsBelow key other.key) b → IsSome (row_of b q) → IsBelow key q
found_over key q [] over found = absurd (false≢true found)
found_over key q (x ∷ b) over found = by_test (is_same x.key q) refl (found_over key q b over.1)
  where
    by_test : (t : Bool) → is_same x.key q ≡ t → (IsSome (row_of b q) → IsBelow key q) → IsBelow key q
    by_test true e later = sym (alike x.key q key (equal_from_test _ e)) ∙ over.0
    by_test false e later = later (subst (λ (t : Bool). IsSome (cond t (Some x.row) (row_of b q))) e found)

-- the first of rows in order is not above any that has a row
pub first_least : (x : RowEntry) (b : List RowEntry) (q : RowKey) → KeysRise (x ∷ b) → IsSome (row_of (x ∷ b) q) → is_gt (key_order x.key q) ≡ false
first_least x b q rise found = by_test (is_same x.key q) refl
  where
    by_test : (t : Bool) → is_same x.key q ≡ t → is_gt (key_order x.key q) ≡ false
    by_test true e = ap is_gt (equal_from_test _ e)
    by_test false e = ap is_gt (found_over x.key q b rise.0 (subst (λ (t : Bool). IsSome (cond t (Some x.row) (row_of b q))) e found))

pub drop_past : (l : List RowEntry) (at : ℕ) → length l ≤ at → drop at l ≡ []
drop_past [] zero le = refl
drop_past [] (suc at) le = refl
drop_past (x ∷ l) zero le = absurd (omega arith)
drop_past (x ∷ l) (suc at) le = drop_past l at (omega arith)
