-- What holds of each entry holds of each key that has a row.
use Rattle.std.proofs.Common.{◌≡◌, ◌&&◌, Bool, true, false, List, [], ◌∷◌, Option, None, Some, IsSome, cond, refl, sym, ◌∙◌, ap, subst, inl, inr}
use mathlib.Core.Bool.{false≢true}
use Rattle.std.specs.List.{AllByRecursion, list_all}
use Rattle.std.specs.Ordering.{is_eq, is_lt}
use Rattle.oz_rows.specs.declared.key.RowKey.{RowKey}
use Rattle.oz_rows.specs.declared.row.Row.{Row}
use Rattle.oz_rows.specs.Order.{key_order}
use Rattle.oz_rows.specs.declared.entry.RowEntry.{RowEntry}
use Rattle.oz_rows.specs.RowMaps.{row_of, is_same, IsBelow, KeysRise}
use Rattle.oz_sound.proofs.example_lemmas.Keys.{same_is_one, same_self, less_from_test}
use Rattle.oz_sound.proofs.example_lemmas.Lists.{IsAmong, split_and, each_item}

some_row : (a b : Row) → Some a ≡ Some b → a ≡ b
some_row a b e = cc

-- what has a row is there
pub found_row : (o : Option Row) → IsSome o → (row : Row) × (o ≡ Some row)
found_row None some = absurd (false≢true some)
found_row (Some row) some = (row, refl)

pub is_there : (o : Option Row) (row : Row) → o ≡ Some row → IsSome o
is_there o row e = subst IsSome (sym e) refl

module _ (Holds : RowKey → Row → Type 0) where
  pub each_row : (rows : List RowEntry) → AllByRecursion (λ entry. Holds entry.key entry.row) rows → (key : RowKey) (row : Row) → row_of rows key ≡ Some row → Holds key row
  each_row [] all key row there = absurd (cc)
  each_row (x ∷ l) all key row there = by (is_same x.key key) refl (each_row l all.1 key row)
    where
      by : (t : Bool) → is_same x.key key ≡ t → (row_of l key ≡ Some row → Holds key row) → Holds key row
      by true e later =
          let row_is : x.row ≡ row = some_row x.row row (sym (ap (λ (t : Bool). cond t (Some x.row) (row_of l key)) e) ∙ there) in
          subst (Holds key) row_is (subst (λ (k : RowKey). Holds k x.row) (same_is_one x.key key e) all.0)
      by false e later = later (sym (ap (λ (t : Bool). cond t (Some x.row) (row_of l key)) e) ∙ there)

-- the same of a test
pub row_passes : (test : RowKey → Row → Bool) (rows : List RowEntry) → list_all (λ (entry : RowEntry). test entry.key entry.row) rows ≡ true → (key : RowKey) (row : Row) → row_of rows key ≡ Some row → test key row ≡ true
row_passes test rows all = each_row (λ key row. test key row ≡ true) rows (each_item (λ (entry : RowEntry). test entry.key entry.row) rows all)

pub key_passes : (test : RowKey → Bool) (rows : List RowEntry) → list_all (λ (entry : RowEntry). test entry.key) rows ≡ true → (key : RowKey) → IsSome (row_of rows key) → test key ≡ true
key_passes test rows all key some = let found = found_row (row_of rows key) some in row_passes (λ key row. test key) rows all key found.0 found.1

-- ---- rows in order

unfoldable pub do_rise : List RowEntry → Bool
do_rise [] = true
do_rise (entry ∷ others) = list_all (λ (other : RowEntry). is_lt (key_order entry.key other.key)) others && do_rise others

pub rising : (rows : List RowEntry) → do_rise rows ≡ true → KeysRise rows
unfolding do_rise
rising [] e = tt
rising (x ∷ l) e =
    let parts = split_and (list_all (λ (other : RowEntry). is_lt (key_order x.key other.key)) l) (do_rise l) e in
    (below l (each_item (λ (other : RowEntry). is_lt (key_order x.key other.key)) l parts.0), rising l parts.1)
  where
    below : (l : List RowEntry) → AllByRecursion (λ (other : RowEntry). is_lt (key_order x.key other.key) ≡ true) l → AllByRecursion (λ (other : RowEntry). IsBelow x.key other.key) l
    below [] all = tt
    below (y ∷ l) all = (less_from_test _ all.0, below l all.1)

-- each entry's key has its row
pub own_row : (rows : List RowEntry) → KeysRise rows → (entry : RowEntry) → IsAmong entry rows → row_of rows entry.key ≡ Some entry.row
own_row [] rise entry among = absurd among
own_row (x ∷ l) rise entry (inl here) =
    subst (λ (e : RowEntry). row_of (x ∷ l) e.key ≡ Some e.row) (sym here) (ap (λ (t : Bool). cond t (Some x.row) (row_of l x.key)) (same_self x.key))
own_row (x ∷ l) rise entry (inr later) = ap (λ (t : Bool). cond t (Some x.row) (row_of l entry.key)) (ap is_eq (below l rise.0 later)) ∙ own_row l rise.1 entry later
  where
    below : (l : List RowEntry) → AllByRecursion (λ (other : RowEntry). IsBelow x.key other.key) l → IsAmong entry l → IsBelow x.key entry.key
    below [] all among = absurd among
    below (y ∷ l) all (inl is) = subst (λ (e : RowEntry). IsBelow x.key e.key) (sym is) all.0
    below (y ∷ l) all (inr later) = below l all.1 later
