-- How many rows of a list have a key from one on and below another, and how that changes with one row.
use Rattle.std.proofs.Common.{◌≡◌, ◌+◌, ◌-◌, ℕ, Bool, true, false, not, ◌&&◌, ◌||◌, List, [], ◌∷◌, ◌++◌, length, Option}
use Rattle.std.proofs.Common.{None, Some, IsSome, is_some, cond, refl, sym, ◌∙◌, ap, subst, arith}
use mathlib.Core.Bool.{false≢true}
use Rattle.std.specs.List.{AllByRecursion, list_any}
use Rattle.std.specs.Ordering.{is_eq, is_lt}
use Rattle.std.specs.declared.cmp.Ordering.{Ordering}
use Rattle.oz_rows.specs.declared.key.RowKey.{RowKey}
use Rattle.oz_rows.specs.declared.row.Row.{Row}
use Rattle.oz_rows.specs.Order.{key_order}
use Rattle.oz_rows.specs.declared.entry.RowEntry.{RowEntry}
use Rattle.oz_rows.specs.Counts.{IsBetween, AllRise, IsCount, AllDiffer}
use Rattle.oz_rows.specs.RowMaps.{Rows, row_of, is_same, KeysRise, IsBelow}
use Rattle.oz_rows.specs.laws.Order.{less_from_test, itself}
use Rattle.oz_rows.specs.laws.Same.{same_is_one}
use Rattle.oz_rows.specs.laws.Lengths.{no_longer}
use Rattle.oz_rows.specs.laws.Splits.{each_in_turn}
use Rattle.oz_rows.specs.laws.Lookups.{entry_key, row_at, row_behind, row_above, row_added, row_replaced, row_removed}
use Rattle.oz_rows.specs.laws.Lookups.{row_absent}
use Rattle.oz_rows.specs.laws.Rising.{rise_with, rise_without, rise_replaced, before_at, behind_at}
use Rattle.oz_rows.specs.laws.Changes.{Spot, at, between, spot}

-- a count where one thing comes or goes
abbrev pub counted_anew : ℕ → Bool → Bool → ℕ
counted_anew n false true = n + 1
counted_anew n true false = n - 1
counted_anew n true true = n
counted_anew n false false = n

rising_differ : (ks : List RowKey) → AllRise ks → AllDiffer ks
rising_differ [] rises = tt
rising_differ (key ∷ ks) rises = (
  each_in_turn _ _ (λ other below e. false≢true (sym (ap is_eq below) ∙ ap (λ k. is_eq (key_order key k)) (sym e) ∙ ap is_eq (itself key))) ks rises.0,
  rising_differ ks rises.1,
)

-- the keys between two keys are so many, whoever counts them
pub one_count : (all : Rows) (from to : RowKey) (m n : ℕ) → IsCount all from to m → IsCount all from to n → m ≡ n
one_count all from to m n (ks, are, size) (ls, are', size') =
    let up = no_longer is_same same_is_one ks ls (rising_differ ks are.rise) (each_in_turn _ _ are'.every ks are.each) in
    let down = no_longer is_same same_is_one ls ks (rising_differ ls are'.rise) (each_in_turn _ _ are.every ls are'.each) in
    omega (arith, up, down, size, size')

-- and whatever rows other keys have
pub count_alike : (all other : Rows) (from to : RowKey) (n : ℕ) → ((key : RowKey) → (IsBelow key from → ⊥) → IsBelow key to → all key ≡ other key)
    → IsCount all from to n → IsCount other from to n
count_alike all other from to n same (ks, are, size) = (
  ks,
  record {
    rise = are.rise;
    each = each_in_turn _ _
        (λ key is. record { has_row = subst IsSome (same key is.not_below is.below) is.has_row; not_below = is.not_below; below = is.below }) ks are.each;
    every = λ key is. are.every key
        (record { has_row = subst IsSome (sym (same key is.not_below is.below)) is.has_row; not_below = is.not_below; below = is.below });
  },
  size,
)

module _ (from to : RowKey) where
  abbrev pub in_range : RowKey → Bool
  in_range key = not (is_lt (key_order key from)) && is_lt (key_order key to)

  range_is : (a b : Bool) → not a && b ≡ true → (a ≡ false) × (b ≡ true)
  range_is false b e = (refl, e)
  range_is true b e = absurd (false≢true e)

  pub range_from : (key : RowKey) → (IsBelow key from → ⊥) → IsBelow key to → in_range key ≡ true
  range_from key over below = by_test (is_lt (key_order key from)) refl
    where
      by_test : (t : Bool) → is_lt (key_order key from) ≡ t → in_range key ≡ true
      by_test true e = absurd (over (less_from_test _ e))
      by_test false e = (λ i. not (e i) && is_lt (key_order key to)) ∙ ap is_lt below

  pub size : List RowEntry → ℕ
  size [] = 0
  size (x ∷ l) = cond (in_range x.key) 1 0 + size l

  keys_in : List RowEntry → List RowKey
  keys_in [] = []
  keys_in (x ∷ l) = cond (in_range x.key) (x.key ∷ keys_in l) (keys_in l)

  as_many : (l : List RowEntry) → size l ≡ length (keys_in l)
  unfolding size keys_in
  as_many [] = refl
  as_many (x ∷ l) = by_test (in_range x.key) (as_many l)
    where
      by_test : (t : Bool) → size l ≡ length (keys_in l) → cond t 1 0 + size l ≡ length (cond t (x.key ∷ keys_in l) (keys_in l))
      by_test true e = omega (arith, e)
      by_test false e = omega (arith, e)

  under : (x : RowEntry) (l : List RowEntry) → AllByRecursion (λ other. IsBelow x.key other.key) l → AllByRecursion (λ key. IsBelow x.key key) (keys_in l)
  unfolding keys_in
  under x [] all = tt
  under x (y ∷ l) all = by_test (in_range y.key) (under x l all.1)
    where
      by_test : (t : Bool) → AllByRecursion (λ key. IsBelow x.key key) (keys_in l)
          → AllByRecursion (λ key. IsBelow x.key key) (cond t (y.key ∷ keys_in l) (keys_in l))
      by_test true later = (all.0, later)
      by_test false later = later

  rises : (l : List RowEntry) → KeysRise l → AllRise (keys_in l)
  unfolding keys_in
  rises [] rise = tt
  rises (x ∷ l) rise = by_test (in_range x.key) (rises l rise.1)
    where
      by_test : (t : Bool) → AllRise (keys_in l) → AllRise (cond t (x.key ∷ keys_in l) (keys_in l))
      by_test true later = (under x l rise.0, later)
      by_test false later = later

  stay_some : (t : Bool) (row : Row) (o : Option Row) → IsSome o → IsSome (cond t (Some row) o)
  stay_some true row o some = refl
  stay_some false row o some = some

  each_between : (l : List RowEntry) → AllByRecursion (IsBetween (row_of l) from to) (keys_in l)
  unfolding keys_in
  each_between [] = tt
  each_between (x ∷ l) =
      by_test (in_range x.key) refl
      (each_in_turn _ _ (λ key is. record {
        has_row = stay_some (is_same x.key key) x.row (row_of l key) is.has_row;
        not_below = is.not_below;
        below = is.below;
      }) (keys_in l) (each_between l))
    where
      by_test : (t : Bool) → in_range x.key ≡ t → AllByRecursion (IsBetween (row_of (x ∷ l)) from to) (keys_in l)
          → AllByRecursion (IsBetween (row_of (x ∷ l)) from to) (cond t (x.key ∷ keys_in l) (keys_in l))
      by_test true e later =
          let tests = range_is (is_lt (key_order x.key from)) (is_lt (key_order x.key to)) e in (
            record {
              has_row = ap (λ (o : Ordering). is_some (cond (is_eq o) (Some x.row) (row_of l x.key))) (itself x.key);
              not_below = λ below. false≢true (sym tests.0 ∙ ap is_lt below);
              below = less_from_test _ tests.1;
            },
            later,
          )
      by_test false e later = later

  every_between : (l : List RowEntry) (key : RowKey) → IsSome (row_of l key) → in_range key ≡ true → list_any (is_same key) (keys_in l) ≡ true
  unfolding keys_in
  every_between [] key some e = absurd (false≢true some)
  every_between (x ∷ l) key some e = by_test (is_same x.key key) refl (in_range x.key) refl (λ some. every_between l key some e)
    where
      head : (t : Bool) → list_any (is_same key) (keys_in l) ≡ true → list_any (is_same key) (cond t (x.key ∷ keys_in l) (keys_in l)) ≡ true
      head true later = either (is_same key x.key) later
        where
          either : (s : Bool) → list_any (is_same key) (keys_in l) ≡ true → s || list_any (is_same key) (keys_in l) ≡ true
          either true later = refl
          either false later = later
      head false later = later

      by_test : (t : Bool) → is_same x.key key ≡ t → (s : Bool) → in_range x.key ≡ s → (IsSome (row_of l key) → list_any (is_same key) (keys_in l) ≡ true)
          → list_any (is_same key) (cond s (x.key ∷ keys_in l) (keys_in l)) ≡ true
      by_test true is true in_it later =
          ap (λ (t : Bool). t || list_any (is_same key) (keys_in l)) (ap (λ k. is_same key k) (same_is_one x.key key is) ∙ ap is_eq (itself key))
      by_test true is false out later = absurd (false≢true (sym out ∙ ap in_range (same_is_one x.key key is) ∙ e))
      by_test false is s in_it later = head s (later (subst (λ (t : Bool). IsSome (cond t (Some x.row) (row_of l key))) is some))

  pub size_counts : (l : List RowEntry) → KeysRise l → IsCount (row_of l) from to (size l)
  size_counts l rise = (
    keys_in l,
    record {
      rise = rises l rise;
      each = each_between l;
      every = λ key is. every_between l key is.has_row (range_from key is.not_below is.below);
    },
    as_many l,
  )

  size_append : (a b : List RowEntry) → size (a ++ b) ≡ size a + size b
  unfolding size
  size_append [] b = omega arith
  size_append (x ∷ a) b = omega (arith, size_append a b)

  -- a row more among others
  size_with : (a b : List RowEntry) (x : RowEntry) → in_range x.key ≡ true → size (a ++ x ∷ b) ≡ size (a ++ b) + 1
  unfolding size
  size_with a b x e =
      let one : ◌≡◌ {A = ℕ} (cond (in_range x.key) 1 0) 1 = ap (λ (t : Bool). cond t 1 0) e in
      omega (arith, size_append a (x ∷ b), size_append a b, one)

  -- rows in order after one row came or went, and how many are between then
  pub record After (l : List RowEntry) (key : RowKey) (row : Option Row) : Type 0 where
    pub now : List RowEntry
    pub rise : KeysRise now
    pub rows : (q : RowKey) → row_of now q ≡ cond (is_same key q) row (row_of l q)
    pub sized : size now ≡ counted_anew (size l) (is_some (row_of l key)) (is_some row)

  put_after : (key : RowKey) (row : Row) (l : List RowEntry) → in_range key ≡ true → KeysRise l → Spot key l → After l key (Some row)
  put_after key row _ e rise (at a b x same) =
      let new : RowEntry = record { key = key; row = row } in
      let below = before_at entry_key a b x key same rise in
      let it : x.key ≡ key = same_is_one x.key key (ap is_eq same) in
      let had : is_some (row_of (a ++ x ∷ b) key) ≡ true = ap is_some (row_at a b x key below same) in
      record {
        now = a ++ new ∷ b;
        rise = rise_replaced entry_key a b x new same rise;
        rows = row_replaced a b x new same below;
        sized = size_with a b new e ∙ sym (size_with a b x (ap in_range it ∙ e)) ∙ sym (ap (λ (t : Bool). counted_anew (size (a ++ x ∷ b)) t true) had);
      }
  put_after key row _ e rise (between a b below above) =
      let new : RowEntry = record { key = key; row = row } in
      let none : is_some (row_of (a ++ b) key) ≡ false = ap is_some (row_behind a b key below ∙ row_above b key above) in
      record {
        now = a ++ new ∷ b;
        rise = rise_with entry_key a b new below above rise;
        rows = row_added a b new below;
        sized = size_with a b new e ∙ sym (ap (λ (t : Bool). counted_anew (size (a ++ b)) t true) none);
      }

  one_fewer : (m n : ℕ) → m ≡ n + 1 → n ≡ m - 1
  one_fewer m n e = omega (arith, e)

  gone_after : (key : RowKey) (l : List RowEntry) → in_range key ≡ true → KeysRise l → Spot key l → After l key None
  gone_after key _ e rise (at a b x same) =
      let below = before_at entry_key a b x key same rise in
      let it : x.key ≡ key = same_is_one x.key key (ap is_eq same) in
      let had : is_some (row_of (a ++ x ∷ b) key) ≡ true = ap is_some (row_at a b x key below same) in
      record {
        now = a ++ b;
        rise = rise_without entry_key a b x rise;
        rows = row_removed a b x key same below (behind_at entry_key a b x key same rise);
        sized = one_fewer _ _ (size_with a b x (ap in_range it ∙ e)) ∙ sym (ap (λ (t : Bool). counted_anew (size (a ++ x ∷ b)) t false) had);
      }
  gone_after key _ e rise (between a b below above) =
      let none : is_some (row_of (a ++ b) key) ≡ false = ap is_some (row_behind a b key below ∙ row_above b key above) in
      record {
        now = a ++ b;
        rise = rise;
        rows = row_absent a b key below above;
        sized = sym (ap (λ (t : Bool). counted_anew (size (a ++ b)) t false) none);
      }

  pub after_one : (l : List RowEntry) (key : RowKey) (row : Option Row) → in_range key ≡ true → KeysRise l → After l key row
  after_one l key (Some row) e rise = put_after key row l e rise (spot key l rise)
  after_one l key None e rise = gone_after key l e rise (spot key l rise)
