-- The entries of the ordered map, as rows.
use Rattle.std.proofs.Common.{◌≡◌, ℕ, suc, List, [], ◌∷◌, length, false, Option, Some, cond, refl, ap, rules, arith}
use Rattle.std.proofs.lemmas.Grind.{common_steps}
use Rattle.std.proofs.Math.Path.{fun_ext}
use Rattle.std.specs.List.{AllByRecursion}
use Rattle.std.specs.Ordering.{is_gt}
use Rattle.std.specs.declared.cmp.Ordering.{Ordering}
use Rattle.std.specs.declared.cmp.Ordering.TheVariants.{Less, Equal, Greater}
use Rattle.oz_rows.specs.contracts.key.RowKeyOrd.TheImpl.{cmp-value}
use Rattle.oz_rows.specs.declared.key.RowKey.{RowKey}
use Rattle.oz_rows.specs.declared.row.Row.{Row}
use Rattle.oz_rows.specs.declared.entry.RowEntry.{RowEntry}
use Rattle.oz_rows.specs.Rows.{kind_of}
use Rattle.oz_rows.specs.Order.{key_order}
use Rattle.oz_rows.specs.Counts as rows
use Rattle.oz_rows.specs.RowMaps.{Rows, row_of, is_same, KeysRise, IsBelow, IsNext, HasNoNext}
use Rattle.oz_rows.specs.laws.Order.{kinds_rise, above_below}
use Rattle.oz_sorted.specs.Counts as sorted
use Rattle.oz_sorted.specs.Sorted as map
use Rattle.oz_sorted.specs.declared.entry.Entry.{Entry}
use Rattle.oz_tables.specs.Tables.{rows_in}

-- ---- the order of row keys has a name of its own

alike : (a b : RowKey) → (cmp-value).it a b ≡ key_order a b
alike a b = first_of (search rules, grind (arith, common_steps))

pub same_order : (cmp-value).it ≡ key_order
same_order = fun_ext (λ a. fun_ext (λ b. alike a b))

-- ---- entries and rows

row_is : (l : List (Entry RowKey Row)) (key : RowKey) → map.value_of key_order l key ≡ row_of (rows_in l) key
row_is [] key = refl
row_is (x ∷ l) key = ap (λ (row : Option Row). cond (is_same x.key key) (Some x.value) row) (row_is l key)

pub rows_are : (l : List (Entry RowKey Row)) → map.value_of key_order l ≡ row_of (rows_in l)
rows_are l = fun_ext (λ key. row_is l key)

pub as_many : (l : List (Entry RowKey Row)) → length l ≡ length (rows_in l)
as_many [] = refl
as_many (x ∷ l) = ap suc (as_many l)

all_below : (key : RowKey) (l : List (Entry RowKey Row)) → AllByRecursion (λ (other : Entry RowKey Row). map.IsBelow key_order key other.key) l → AllByRecursion (λ (other : RowEntry). IsBelow key other.key) (rows_in l)
all_below key [] all = tt
all_below key (x ∷ l) all = (all.0, all_below key l all.1)

pub rise_is : (l : List (Entry RowKey Row)) → map.KeysRise key_order l → KeysRise (rows_in l)
rise_is [] rise = tt
rise_is (x ∷ l) rise = (all_below x.key l rise.0, rise_is l rise.1)

-- ---- the next key of all kinds, and that of one

pub none_next : (rows : Rows) (key : RowKey) → map.HasNoNext key_order rows key → HasNoNext rows key
none_next rows key none q is_above = none q (record { has_value = is_above.has_row; above = is_above.above })

module _ (rows : Rows) (key found : RowKey) (row : Row) (next : map.IsNext key_order rows key found row) where
  pub is_next : kind_of found ≡ kind_of key → IsNext rows key found row
  is_next kind = record {
    is_above = record { has_row = next.is_above.has_value; same_kind = kind; above = next.is_above.above };
    its_row = next.its_value;
    least = λ q is_above under. next.least q (record { has_value = is_above.has_row; above = is_above.above }) under;
  }

  pub other_kind : (kind_of found ≡ kind_of key → ⊥) → HasNoNext rows key
  other_kind apart q is_above = apart (omega (arith, kinds_rise found q (by (key_order found q) refl), kinds_rise key found (ap is_gt next.is_above.above), is_above.same_kind))
    where
      by : (o : Ordering) → key_order found q ≡ o → is_gt (key_order found q) ≡ false
      by Less e = ap is_gt e
      by Equal e = ap is_gt e
      by Greater e = absurd (next.least q (record { has_value = is_above.has_row; above = is_above.above }) (above_below found q e))

-- ---- how many keys have a row

keys_rise : (l : List RowKey) → sorted.AllRise key_order l → rows.AllRise l
keys_rise [] rise = tt
keys_rise (x ∷ l) rise = (rise.0, keys_rise l rise.1)

module _ (values : Rows) (from to : RowKey) where
  each_between : (l : List RowKey) → AllByRecursion (sorted.IsBetween key_order values from to) l → AllByRecursion (rows.IsBetween values from to) l
  each_between [] all = tt
  each_between (x ∷ l) all = (record { has_row = all.0.has_value; not_below = all.0.not_below; below = all.0.below }, each_between l all.1)

  pub count_is : (n : ℕ) → sorted.IsCount key_order values from to n → rows.IsCount values from to n
  count_is n (keys, are, size) = (
    keys,
    record {
      rise = keys_rise keys are.rise;
      each = each_between keys are.each;
      every = λ key between. are.every key (record { has_value = between.has_row; not_below = between.not_below; below = between.below });
    },
    size,
  )
