-- What changes that are made entry by entry make of the row of one key.
use Rattle.std.proofs.Common.{◌≡◌, Bool, true, false, List, [], ◌∷◌, ◌++◌, Option, None, Some, cond, refl, sym, ◌∙◌, ap}
use mathlib.Core.Bool.{false≢true}
use Rattle.std.specs.List.{AllByRecursion, flat_map}
use Rattle.std.specs.Ordering.{is_eq}
use Rattle.oz_rows.specs.declared.entry.RowEntry.{RowEntry}
use Rattle.oz_rows.specs.declared.key.RowKey.{RowKey}
use Rattle.oz_rows.specs.declared.operation.Change.{Change}
use Rattle.oz_rows.specs.declared.row.Row.{Row}
use Rattle.oz_rows.specs.RowMaps.{IsBelow, KeysRise, is_same, row_after, row_of}
use Rattle.oz_rows.specs.laws.Order.{itself}
use Rattle.oz_rows.specs.laws.Same.{same_is_one}

pub rows_join : (a c : List Change) (q : RowKey) (row : Option Row) → row_after (a ++ c) q row ≡ row_after c q (row_after a q row)
rows_join [] c q row = refl
rows_join (change ∷ a) c q row = rows_join a c q _

pub apart : (a b : RowKey) → (a ≡ b → ⊥) → is_same a b ≡ false
apart a b differ = by (is_same a b) refl
  where
    by : (t : Bool) → is_same a b ≡ t → is_same a b ≡ false
    by true e = absurd (differ (same_is_one a b e))
    by false e = e

pub key_itself : (key : RowKey) → is_same key key ≡ true
key_itself key = ap is_eq (itself key)

-- the row that one row makes of another, where it is there
abbrev pub changed_so : (Row → Option Row → Option Row) → Option Row → Option Row → Option Row
changed_so effect None row = row
changed_so effect (Some found) row = effect found row

abbrev pub changed : (Row → Option Row) → Option Row → Option Row → Option Row
changed effect found row = changed_so (λ it before. effect it) found row

-- what an entry gives leaves the row of this key
abbrev pub Leaves : (RowEntry → List Change) → RowKey → RowEntry → Type 0
Leaves give q entry = (row : Option Row) → row_after (give entry) q row ≡ row

module _ (give : RowEntry → List Change) (q : RowKey) where
  -- a key whose row no entry changes
  pub untouched : ((entry : RowEntry) → Leaves give q entry) → (l : List RowEntry) (row : Option Row) → row_after (flat_map give l) q row ≡ row
  untouched leaves [] row = refl
  untouched leaves (entry ∷ l) row = rows_join (give entry) (flat_map give l) q row ∙ ap (row_after (flat_map give l) q) (leaves entry row) ∙ untouched leaves l row

  -- the row of a key that the entry of one other key alone changes
  module _ (source : RowKey) (effect : Row → Option Row → Option Row) (others : (entry : RowEntry) → is_same entry.key source ≡ false → Leaves give q entry) (its : (entry : RowEntry) → entry.key ≡ source → (row : Option Row) → row_after (give entry) q row ≡ effect entry.row row) where
    passed : (l : List RowEntry) → AllByRecursion (λ (entry : RowEntry). is_same entry.key source ≡ false) l → (row : Option Row) → row_after (flat_map give l) q row ≡ row
    passed [] all row = refl
    passed (entry ∷ l) all row = rows_join (give entry) (flat_map give l) q row ∙ ap (row_after (flat_map give l) q) (others entry all.0 row) ∙ passed l all.1 row

    above : (key : RowKey) (l : List RowEntry) → key ≡ source → AllByRecursion (λ (other : RowEntry). IsBelow key other.key) l → AllByRecursion (λ (entry : RowEntry). is_same entry.key source ≡ false) l
    above key [] same below = tt
    above key (x ∷ l) same below = (apart x.key source (λ e. not_less (ap is_eq below.0) (same ∙ sym e)), above key l same below.1)
      where
        not_less : is_same key x.key ≡ false → key ≡ x.key → ⊥
        not_less differ e = false≢true (sym differ ∙ ap (λ k. is_same key k) (sym e) ∙ key_itself key)

    pub touched_so : (l : List RowEntry) → KeysRise l → (row : Option Row) → row_after (flat_map give l) q row ≡ changed_so effect (row_of l source) row
    touched_so [] rise row = refl
    touched_so (entry ∷ l) rise row = rows_join (give entry) (flat_map give l) q row ∙ by (is_same entry.key source) refl (touched_so l rise.1) row
      where
        by : (t : Bool) → is_same entry.key source ≡ t → ((row : Option Row) → row_after (flat_map give l) q row ≡ changed_so effect (row_of l source) row)
            → (row : Option Row) → row_after (flat_map give l) q (row_after (give entry) q row) ≡ changed_so effect (cond (is_same entry.key source) (Some entry.row) (row_of l source)) row
        by true e later row =
            let same = same_is_one entry.key source e in
            ap (row_after (flat_map give l) q) (its entry same row) ∙ passed l (above entry.key l same rise.0) (effect entry.row row) ∙ ap (λ (t : Bool). changed_so effect (cond t (Some entry.row) (row_of l source)) row) (sym e)
        by false e later row =
            ap (row_after (flat_map give l) q) (others entry e row) ∙ later row ∙ ap (λ (t : Bool). changed_so effect (cond t (Some entry.row) (row_of l source)) row) (sym e)

  -- the same, where the row before doesn't matter
  pub touched : (source : RowKey) (effect : Row → Option Row) (others : (entry : RowEntry) → is_same entry.key source ≡ false → Leaves give q entry) (its : (entry : RowEntry) → entry.key ≡ source → (row : Option Row) → row_after (give entry) q row ≡ effect entry.row)
      → (l : List RowEntry) → KeysRise l → (row : Option Row) → row_after (flat_map give l) q row ≡ changed effect (row_of l source) row
  touched source effect others its l rise row = touched_so source (λ found before. effect found) others its l rise row
