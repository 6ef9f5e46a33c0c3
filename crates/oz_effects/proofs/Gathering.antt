-- A walk from key to key finds the rows of a part, in order.
use Rattle.std.proofs.Common.{◌≡◌, ℕ, false, List, [], ◌∷◌, ◌++◌, Option, Some, IsSome, cond, refl, sym, ◌∙◌, ap, subst, arith}
use mathlib.Core.Bool.{false≢true}
use Rattle.std.specs.List.{AllByRecursion}
use Rattle.std.specs.Ordering.{nat_cmp, is_eq, is_gt, is_ge, ordering_then}
use Rattle.std.specs.declared.cmp.Ordering.{Ordering}
use Rattle.std.specs.declared.cmp.Ordering.TheVariants.{Less, Equal, Greater}
use Rattle.std.specs.Cmp.Lexicographic.{slice_cmp}
use Rattle.std.specs.FinMap.{nat_cmp-IsAntisymmetric}
use Rattle.oz_rows.specs.declared.key.RowKey.{RowKey}
use Rattle.oz_rows.specs.declared.row.Row.{Row}
use Rattle.oz_rows.specs.declared.entry.RowEntry.{RowEntry}
use Rattle.oz_rows.specs.Rows.{kind_of}
use Rattle.oz_rows.specs.Order.{key_order}
use Rattle.oz_rows.specs.RowMaps.{Rows, AreRows, row_of, KeysRise, IsBelow, IsAbove, IsNext}
use Rattle.oz_rows.specs.laws.Order.{key_order_total, itself, alike_left, above_below, kinds_rise}
use Rattle.oz_rows.specs.laws.Same.{same_is_one}
use Rattle.oz_rows.specs.laws.Lookups.{entry_key, AllAbove, row_behind, row_above, row_at}
use Rattle.oz_rows.specs.laws.Rising.{before_at, behind_at, over_same}
use Rattle.oz_rows.specs.laws.Changes.{Spot, at, between, spot}
use Rattle.oz_rows.specs.laws.Following.{first_least}
use Rattle.oz_effects.specs.Parts.{IsPart, IsFirst, part_order, own_row}
use Rattle.oz_effects.proofs.PartOrder.{above_falls, not_below_falls}

abbrev entry_of : RowKey → Row → RowEntry
entry_of key row = record { key = key; row = row }

-- ---- lists

all_snoc : (P : RowEntry → Type 0) (a : List RowEntry) (x : RowEntry) → AllByRecursion P a → P x → AllByRecursion P (a ++ x ∷ [])
all_snoc P [] x all one = (one, tt)
all_snoc P (y ∷ a) x all one = (all.0, all_snoc P a x all.1 one)

each : (P Q : RowEntry → Type 0) → ((entry : RowEntry) → P entry → Q entry) → (a : List RowEntry) → AllByRecursion P a → AllByRecursion Q a
each P Q from [] all = tt
each P Q from (x ∷ a) all = (from x all.0, each P Q from a all.1)

snoc_rest : (a b : List RowEntry) (x : RowEntry) → a ++ x ∷ b ≡ (a ++ x ∷ []) ++ b
snoc_rest [] b x = refl
snoc_rest (y ∷ a) b x = ap (λ (l : List RowEntry). y ∷ l) (snoc_rest a b x)

rise_behind : (a b : List RowEntry) → KeysRise (a ++ b) → KeysRise b
rise_behind [] b rise = rise
rise_behind (x ∷ a) b rise = rise_behind a b rise.1

-- each of rows in order is found under its key
pub each_found : (l : List RowEntry) → KeysRise l → AllByRecursion (λ (entry : RowEntry). row_of l entry.key ≡ Some entry.row) l
each_found [] rise = tt
each_found (x ∷ l) rise = (ap (λ o. cond (is_eq o) (Some x.row) (row_of l x.key)) (itself x.key), behind l rise.0 (each_found l rise.1))
  where
    behind : (m : List RowEntry) → AllByRecursion (λ (other : RowEntry). IsBelow x.key other.key) m → AllByRecursion (λ (entry : RowEntry). row_of l entry.key ≡ Some entry.row) m
        → AllByRecursion (λ (entry : RowEntry). row_of (x ∷ l) entry.key ≡ Some entry.row) m
    behind [] below found = tt
    behind (y ∷ m) below found = (ap (λ o. cond (is_eq o) (Some x.row) (row_of l y.key)) below.0 ∙ found.0, behind m below.1 found.1)

some_row : (a b : Row) → Some a ≡ Some b → a ≡ b
some_row a b e = cc

not_equal_less : {P : Type 0} → Equal ≡ Less → P
not_equal_less e = absurd (false≢true (sym (ap is_eq e)))

-- ---- what begins with the same fields

first_level : (a b : Ordering) → ordering_then a b ≡ Equal → a ≡ Equal
first_level Less b e = e
first_level Equal b e = refl
first_level Greater b e = e

-- keys of a part are of its kind
pub kind_within : (kind : ℕ) (home : List (List ℕ)) (key : RowKey) → part_order ((kind ∷ []) ∷ home) key ≡ Equal → kind ≡ kind_of key
kind_within kind home key e =
    let level = first_level (nat_cmp kind (kind_of key)) Equal (first_level (slice_cmp nat_cmp (kind ∷ []) (kind_of key ∷ [])) _ e) in
    nat_cmp-IsAntisymmetric kind (kind_of key) level

-- the rows of the part up to the last key, and what stands before and behind them
pub record Gathered (front : List (List ℕ)) (all found : List RowEntry) (last : RowKey) : Type 0 where
  pub lower : List RowEntry
  pub rest : List RowEntry
  pub parts : all ≡ lower ++ (found ++ rest)
  pub before : AllByRecursion (λ (entry : RowEntry). part_order front entry.key ≡ Greater) lower
  pub among : AllByRecursion (λ (entry : RowEntry). part_order front entry.key ≡ Equal) found
  pub passed : AllByRecursion (λ (entry : RowEntry). is_gt (key_order entry.key last) ≡ false) found
  pub last_is : part_order front last ≡ Equal
  pub above : AllAbove last rest

module _ (front : List (List ℕ)) where
  -- a key below one of the part, and not of the part's rows, comes before the part
  lower_is_before : (start key : RowKey) → IsFirst front start → IsBelow key start → part_order front key ≡ Greater
  lower_is_before start key first below = by (part_order front key) refl
    where
      by : (o : Ordering) → part_order front key ≡ o → part_order front key ≡ Greater
      by Greater e = e
      by Equal e = absurd (first.least key e below)
      by Less e = absurd (false≢true (sym (ap is_ge e) ∙ not_below_falls front key start below (ap is_ge first.among)))

  -- what comes before the part is below its keys
  before_is_lower : (key last : RowKey) → part_order front key ≡ Greater → part_order front last ≡ Equal → IsBelow key last
  before_is_lower key last before is = by (key_order key last) refl
    where
      by : (o : Ordering) → key_order key last ≡ o → IsBelow key last
      by Less e = e
      by Equal e = absurd (false≢true (sym (ap is_gt is) ∙ ap (λ (k : RowKey). is_gt (part_order front k)) (sym (same_is_one key last (ap is_eq e))) ∙ ap is_gt before))
      by Greater e = absurd (false≢true (sym (ap is_gt is) ∙ above_falls front last key (above_below key last e) (ap is_gt before)))

  pub begins : (start : RowKey) (all : List RowEntry) → KeysRise all → IsFirst front start → Gathered front all (own_row start (row_of all start)) start
  begins start all rise first = by all rise (spot start all rise)
    where
      by : (l : List RowEntry) → KeysRise l → Spot start l → Gathered front l (own_row start (row_of l start)) start
      by _ rise (at a b x same) =
          let below = before_at entry_key a b x start same rise in
          let is : x ≡ entry_of start x.row = ap (λ (key : RowKey). entry_of key x.row) (same_is_one x.key start (ap is_eq same)) in
          let found = row_at a b x start below same in
          record {
            lower = a;
            rest = b;
            parts = ap (λ (y : RowEntry). a ++ y ∷ b) is ∙ ap (λ (row : Option Row). a ++ (own_row start row ++ b)) (sym found);
            before = each (λ (entry : RowEntry). key_order entry.key start ≡ Less) (λ (entry : RowEntry). part_order front entry.key ≡ Greater) (λ entry below. lower_is_before start entry.key first below) a below;
            among = subst (λ (row : Option Row). AllByRecursion (λ (entry : RowEntry). part_order front entry.key ≡ Equal) (own_row start row)) (sym found) (first.among, tt);
            passed = subst (λ (row : Option Row). AllByRecursion (λ (entry : RowEntry). is_gt (key_order entry.key start) ≡ false) (own_row start row)) (sym found) (ap is_gt (itself start), tt);
            last_is = first.among;
            above = behind_at entry_key a b x start same rise;
          }
      by _ rise (between a b below above) =
          let none = row_behind a b start below ∙ row_above b start above in
          record {
            lower = a;
            rest = b;
            parts = ap (λ (row : Option Row). a ++ (own_row start row ++ b)) (sym none);
            before = each (λ (entry : RowEntry). key_order entry.key start ≡ Less) (λ (entry : RowEntry). part_order front entry.key ≡ Greater) (λ entry below. lower_is_before start entry.key first below) a below;
            among = subst (λ (row : Option Row). AllByRecursion (λ (entry : RowEntry). part_order front entry.key ≡ Equal) (own_row start row)) (sym none) tt;
            passed = subst (λ (row : Option Row). AllByRecursion (λ (entry : RowEntry). is_gt (key_order entry.key start) ≡ false) (own_row start row)) (sym none) tt;
            last_is = first.among;
            above = above;
          }

le_below : (a b c : RowKey) (o : Ordering) → key_order a b ≡ o → is_gt o ≡ false → IsBelow b c → IsBelow a c
le_below a b c Less e le below = key_order_total.trans a b c e below
le_below a b c Equal e le below = alike_left a b c e ∙ below
le_below a b c Greater e le below = absurd (false≢true (sym le))

module _ (front : List (List ℕ)) (all found : List RowEntry) (last : RowKey) (rise : KeysRise all) where
  -- what stands above the last key is found behind it
  row_later : (lower rest : List RowEntry) → all ≡ lower ++ (found ++ rest) → AllByRecursion (λ (entry : RowEntry). part_order front entry.key ≡ Greater) lower
      → AllByRecursion (λ (entry : RowEntry). is_gt (key_order entry.key last) ≡ false) found → part_order front last ≡ Equal → (q : RowKey) → IsBelow last q → row_of all q ≡ row_of rest q
  row_later lower rest parts before passed last_is q below =
      let under = λ (entry : RowEntry) (is_before : part_order front entry.key ≡ Greater). key_order_total.trans entry.key last q (before_is_lower front entry.key last is_before last_is) below in
      let over = λ (entry : RowEntry) (le : is_gt (key_order entry.key last) ≡ false). le_below entry.key last q _ refl le below in
      ap (λ (l : List RowEntry). row_of l q) parts
      ∙ row_behind lower (found ++ rest) q (each (λ (entry : RowEntry). part_order front entry.key ≡ Greater) (λ (entry : RowEntry). key_order entry.key q ≡ Less) under lower before)
      ∙ row_behind found rest q (each (λ (entry : RowEntry). is_gt (key_order entry.key last) ≡ false) (λ (entry : RowEntry). key_order entry.key q ≡ Less) over found passed)

  rest_rises : (lower rest : List RowEntry) → all ≡ lower ++ (found ++ rest) → KeysRise rest
  rest_rises lower rest parts = rise_behind found rest (rise_behind lower (found ++ rest) (subst KeysRise parts rise))

  module _ (key : RowKey) (row : Row) (next : IsNext (row_of all) last key row) where
    -- the next row stands first among those behind
    step_at : (lower rest : List RowEntry) → (parts : all ≡ lower ++ (found ++ rest)) → (before : AllByRecursion (λ (entry : RowEntry). part_order front entry.key ≡ Greater) lower)
        → AllByRecursion (λ (entry : RowEntry). part_order front entry.key ≡ Equal) found
        → (passed : AllByRecursion (λ (entry : RowEntry). is_gt (key_order entry.key last) ≡ false) found) → (last_is : part_order front last ≡ Equal) → AllAbove last rest
        → part_order front key ≡ Equal → Gathered front all (found ++ entry_of key row ∷ []) key
    step_at lower [] parts before among passed last_is above is =
        absurd (false≢true (subst IsSome (row_later lower [] parts before passed last_is key next.is_above.above) next.is_above.has_row))
    step_at lower (x ∷ rest) parts before among passed last_is above is =
        let later = row_later lower (x ∷ rest) parts before passed last_is in
        let rises = rest_rises lower (x ∷ rest) parts in
        let last_below = above_below x.key last above.0 in
        let not_above = first_least x rest key rises (subst IsSome (later key next.is_above.above) next.is_above.has_row) in
        let x_found = later x.key last_below ∙ ap (λ o. cond (is_eq o) (Some x.row) (row_of rest x.key)) (itself x.key) in
        let kind : kind_of x.key ≡ kind_of last = omega (arith, kinds_rise last x.key (ap is_gt last_below), kinds_rise x.key key not_above, next.is_above.same_kind) in
        let not_under = λ (under : IsBelow x.key key). next.least x.key (record { has_row = subst IsSome (sym x_found) refl; same_kind = kind; above = last_below }) under in
        let level : key_order x.key key ≡ Equal = by (key_order x.key key) refl not_above not_under in
        let same_row = some_row x.row row (sym (ap (λ o. cond (is_eq o) (Some x.row) (row_of rest key)) level) ∙ sym (later key next.is_above.above) ∙ next.its_row) in
        let is_entry : x ≡ entry_of key row = ap (λ (k : RowKey). entry_of k x.row) (same_is_one x.key key (ap is_eq level)) ∙ ap (entry_of key) same_row in
        record {
          lower = lower;
          rest = rest;
          parts = parts ∙ ap (λ (l : List RowEntry). lower ++ l) (ap (λ (y : RowEntry). found ++ y ∷ rest) is_entry ∙ snoc_rest found rest (entry_of key row));
          before = before;
          among = all_snoc (λ (entry : RowEntry). part_order front entry.key ≡ Equal) found (entry_of key row) among is;
          passed = all_snoc (λ (entry : RowEntry). is_gt (key_order entry.key key) ≡ false) found (entry_of key row)
              (each (λ (entry : RowEntry). is_gt (key_order entry.key last) ≡ false) (λ (entry : RowEntry). is_gt (key_order entry.key key) ≡ false) (λ entry le. ap is_gt (le_below entry.key last key _ refl le next.is_above.above)) found passed)
              (ap is_gt (itself key));
          last_is = is;
          above = over_same entry_key x key rest level rises.0;
        }
      where
        by : (o : Ordering) → key_order x.key key ≡ o → is_gt o ≡ false → (IsBelow x.key key → ⊥) → key_order x.key key ≡ Equal
        by Less e le not_under = absurd (not_under e)
        by Equal e le not_under = e
        by Greater e le not_under = absurd (false≢true (sym le))

    pub steps : part_order front key ≡ Equal → Gathered front all found last → Gathered front all (found ++ entry_of key row ∷ []) key
    steps is it = step_at it.lower it.rest it.parts it.before it.among it.passed it.last_is it.above is

    -- where the next row is past the part, nothing of the part is above
    pub none_past : part_order front last ≡ Equal → is_eq (part_order front key) ≡ false → (q : RowKey) → IsAbove (row_of all) last q → part_order front q ≡ Equal → ⊥
    none_past last_is past q is_above is = by (key_order q key) refl
      where
        within : (o : Ordering) → part_order front key ≡ o → IsBelow key q → ⊥
        within Equal e over = false≢true (sym past ∙ ap is_eq e)
        within Less e over = false≢true (sym (ap is_ge e) ∙ not_below_falls front key q over (ap is_ge is))
        within Greater e over = false≢true (sym (ap is_gt last_is) ∙ above_falls front last key next.is_above.above (ap is_gt e))

        by : (o : Ordering) → key_order q key ≡ o → ⊥
        by Less e = next.least q is_above e
        by Equal e = false≢true (sym past ∙ ap (λ (k : RowKey). is_eq (part_order front k)) (sym (same_is_one q key (ap is_eq e))) ∙ ap is_eq is)
        by Greater e = within (part_order front key) refl (above_below q key e)

-- where nothing of the part is above the last key, all of it is gathered
pub ends : (kind : ℕ) (home : List (List ℕ)) (all found : List RowEntry) (last : RowKey) → KeysRise all → (it : Gathered ((kind ∷ []) ∷ home) all found last)
    → ((q : RowKey) → IsAbove (row_of all) last q → part_order ((kind ∷ []) ∷ home) q ≡ Equal → ⊥) → IsPart all ((kind ∷ []) ∷ home) found
ends kind home all found last rise it none =
    let front : List (List ℕ) = (kind ∷ []) ∷ home in
    let later = row_later front all found last rise it.lower it.rest it.parts it.before it.passed it.last_is in
    record {
      lower = it.lower;
      greater = it.rest;
      parts = it.parts;
      before = it.before;
      among = it.among;
      behind = by it.rest later it.above (each_found it.rest (rest_rises front all found last rise it.lower it.rest it.parts));
    }
  where
    one : (rest : List RowEntry) → ((q : RowKey) → IsBelow last q → row_of all q ≡ row_of rest q) → (x : RowEntry) → key_order x.key last ≡ Greater → row_of rest x.key ≡ Some x.row
        → (o : Ordering) → part_order ((kind ∷ []) ∷ home) x.key ≡ o → part_order ((kind ∷ []) ∷ home) x.key ≡ Less
    one rest later x above stands Less e = e
    one rest later x above stands Equal e =
        let below = above_below x.key last above in
        let same = sym (kind_within kind home x.key e) ∙ kind_within kind home last it.last_is in
        absurd (none x.key (record { has_row = subst IsSome (sym (later x.key below ∙ stands)) refl; same_kind = same; above = below }) e)
    one rest later x above stands Greater e = absurd (false≢true (sym (ap is_gt it.last_is) ∙ above_falls ((kind ∷ []) ∷ home) last x.key (above_below x.key last above) (ap is_gt e)))

    each_behind : (rest : List RowEntry) → ((q : RowKey) → IsBelow last q → row_of all q ≡ row_of rest q) → (l : List RowEntry) → AllAbove last l
        → AllByRecursion (λ (entry : RowEntry). row_of rest entry.key ≡ Some entry.row) l → AllByRecursion (λ (entry : RowEntry). part_order ((kind ∷ []) ∷ home) entry.key ≡ Less) l
    each_behind rest later [] above found = tt
    each_behind rest later (x ∷ l) above found = (one rest later x above.0 found.0 _ refl, each_behind rest later l above.1 found.1)

    by : (rest : List RowEntry) → ((q : RowKey) → IsBelow last q → row_of all q ≡ row_of rest q) → AllAbove last rest
        → AllByRecursion (λ (entry : RowEntry). row_of rest entry.key ≡ Some entry.row) rest → AllByRecursion (λ (entry : RowEntry). part_order ((kind ∷ []) ∷ home) entry.key ≡ Less) rest
    by rest later above found = each_behind rest later rest above found

-- the same list of rows under another name of the map
pub told_by : (all : List RowEntry) (rows : Rows) → AreRows all rows → row_of all ≡ rows
told_by all rows are = λ i key. are.rows_are key i
