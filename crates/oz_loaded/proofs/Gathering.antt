-- A walk from key to key finds the rows of one kind, in order, behind those of lower kinds.
use Rattle.std.proofs.Common.{◌≡◌, ◌+◌, ◌<◌, ◌≤◌, false, List, [], ◌∷◌, ◌++◌, Option, None, Some, IsSome, cond, refl, sym, ◌∙◌, ap, subst, arith}
use mathlib.Core.Bool.{false≢true}
use Rattle.std.specs.List.{AllByRecursion}
use Rattle.std.specs.Ordering.{is_eq, is_gt}
use Rattle.std.specs.declared.cmp.Ordering.{Ordering}
use Rattle.std.specs.declared.cmp.Ordering.TheVariants.{Less, Equal, Greater}
use Rattle.std.proofs.lemmas.List.{append-nil}
use Rattle.oz_rows.specs.declared.key.RowKey.{RowKey}
use Rattle.oz_rows.specs.declared.row.Row.{Row}
use Rattle.oz_rows.specs.declared.entry.RowEntry.{RowEntry}
use Rattle.oz_rows.specs.Rows.{kind_of}
use Rattle.oz_rows.specs.Order.{key_order}
use Rattle.oz_rows.specs.RowMaps.{row_of, KeysRise, IsBelow, IsNext, HasNoNext}
use Rattle.oz_rows.specs.laws.Order.{key_order_total, itself, alike_left, above_below, kinds_rise}
use Rattle.oz_rows.specs.laws.Same.{same_is_one}
use Rattle.oz_rows.specs.laws.Lookups.{entry_key, AllAbove, AllBelow, row_behind, row_above}
use Rattle.oz_rows.specs.laws.Rising.{before_at, behind_at, over_same}
use Rattle.oz_rows.specs.laws.Changes.{Spot, at, between, spot}
use Rattle.oz_rows.specs.laws.Following.{first_least}
use Rattle.oz_effects.specs.Parts.{own_row}
use Rattle.oz_sound.specs.stripes.laws.Lists.{each_found}
use Rattle.oz_loaded.specs.Walks.{IsFirstOfKind, StandBefore}

entry_of : RowKey → Row → RowEntry
entry_of key row = record { key = key; row = row }

-- ---- lists

all_snoc : (P : RowEntry → Type 0) (a : List RowEntry) (x : RowEntry) → AllByRecursion P a → P x → AllByRecursion P (a ++ x ∷ [])
all_snoc P [] x all one = (one, tt)
all_snoc P (y ∷ a) x all one = (all.0, all_snoc P a x all.1 one)

each : (P Q : RowEntry → Type 0) → ((entry : RowEntry) → P entry → Q entry) → (a : List RowEntry) → AllByRecursion P a → AllByRecursion Q a
each P Q from [] all = tt
each P Q from (x ∷ a) all = (from x all.0, each P Q from a all.1)

snoc_rest : (a b : List RowEntry) (x : RowEntry) → a ++ x ∷ b ≡ (a ++ x ∷ []) ++ b
snoc_rest [] b x = refl
snoc_rest (y ∷ a) b x = ap (λ (l : List RowEntry). y ∷ l) (snoc_rest a b x)

rise_behind : (a b : List RowEntry) → KeysRise (a ++ b) → KeysRise b
rise_behind [] b rise = rise
rise_behind (x ∷ a) b rise = rise_behind a b rise.1

some_row : (a b : Row) → Some a ≡ Some b → a ≡ b
some_row a b e = cc

-- ---- keys

le_below : (a b c : RowKey) (o : Ordering) → key_order a b ≡ o → is_gt o ≡ false → IsBelow b c → IsBelow a c
le_below a b c Less e le below = key_order_total.trans a b c e below
le_below a b c Equal e le below = alike_left a b c e ∙ below
le_below a b c Greater e le below = absurd (false≢true (sym le))

-- a key of a lower kind is below
lower_kind : (a b : RowKey) → kind_of a < kind_of b → IsBelow a b
lower_kind a b lt = by (key_order a b) refl
  where
    by : (o : Ordering) → key_order a b ≡ o → IsBelow a b
    by Less e = e
    by Equal e = absurd (omega (arith, lt, kinds_rise b a (ap is_gt (sym (alike_left a b a e) ∙ itself a))))
    by Greater e = absurd (omega (arith, lt, kinds_rise b a (ap is_gt (above_below a b e))))

-- the rows up to the last key, and what stands behind them
pub record Walked (all found : List RowEntry) (last : RowKey) : Type 0 where
  pub rest : List RowEntry
  pub parts : all ≡ found ++ rest
  pub passed : AllByRecursion (λ (entry : RowEntry). is_gt (key_order entry.key last) ≡ false) found
  pub above : AllAbove last rest

-- ---- the beginning

module _ (start : RowKey) (first : IsFirstOfKind start) where
  none_lower : (x : RowEntry) → kind_of start ≤ kind_of x.key → IsBelow x.key start → ⊥
  none_lower x le below = first x.key (omega (arith, le, kinds_rise x.key start (ap is_gt below))) below

  module _ (all lower : List RowEntry) (below : AllBelow start lower) where
    passed_lower : AllByRecursion (λ (entry : RowEntry). is_gt (key_order entry.key start) ≡ false) lower
    passed_lower = each (λ (entry : RowEntry). key_order entry.key start ≡ Less) (λ (entry : RowEntry). is_gt (key_order entry.key start) ≡ false) (λ entry less. ap is_gt less) lower below

    begins_at : (b : List RowEntry) (x : RowEntry) → all ≡ lower ++ x ∷ b → key_order x.key start ≡ Equal → AllAbove start b → Walked all (lower ++ own_row start (row_of all start)) start
    unfolding entry_of
    begins_at b x parts same above =
        let found : row_of all start ≡ Some x.row = ap (λ (l : List RowEntry). row_of l start) parts ∙ row_behind lower (x ∷ b) start below ∙ ap (λ o. cond (is_eq o) (Some x.row) (row_of b start)) same in
        let is : x ≡ entry_of start x.row = ap (λ (key : RowKey). entry_of key x.row) (same_is_one x.key start (ap is_eq same)) in
        record {
          rest = b;
          parts = parts ∙ ap (λ (y : RowEntry). lower ++ y ∷ b) is ∙ snoc_rest lower b (entry_of start x.row) ∙ ap (λ (row : Option Row). (lower ++ own_row start row) ++ b) (sym found);
          passed = subst (λ (row : Option Row). AllByRecursion (λ (entry : RowEntry). is_gt (key_order entry.key start) ≡ false) (lower ++ own_row start row)) (sym found)
              (all_snoc (λ (entry : RowEntry). is_gt (key_order entry.key start) ≡ false) lower (entry_of start x.row) passed_lower (ap is_gt (itself start)));
          above = above;
        }

    begins_before : (b : List RowEntry) → all ≡ lower ++ b → AllAbove start b → Walked all (lower ++ own_row start (row_of all start)) start
    begins_before b parts above =
        let none : row_of all start ≡ None = ap (λ (l : List RowEntry). row_of l start) parts ∙ row_behind lower b start below ∙ row_above b start above in
        let same : lower ≡ lower ++ own_row start (row_of all start) = sym (append-nil lower) ∙ ap (λ (row : Option Row). lower ++ own_row start row) (sym none) in
        record {
          rest = b;
          parts = parts ∙ ap (λ (l : List RowEntry). l ++ b) same;
          passed = subst (AllByRecursion (λ (entry : RowEntry). is_gt (key_order entry.key start) ≡ false)) same passed_lower;
          above = above;
        }

    begins_in : (rest : List RowEntry) → all ≡ lower ++ rest → AllByRecursion (λ (entry : RowEntry). kind_of start ≤ kind_of entry.key) rest → KeysRise rest → Spot start rest → Walked all (lower ++ own_row start (row_of all start)) start
    begins_in _ parts others rise (at [] b x same) = begins_at b x parts same (behind_at entry_key [] b x start same rise)
    begins_in _ parts others rise (at (y ∷ a) b x same) = absurd (none_lower y others.0 (before_at entry_key (y ∷ a) b x start same rise).0)
    begins_in _ parts others rise (between [] b under above) = begins_before b parts above
    begins_in _ parts others rise (between (y ∷ a) b under above) = absurd (none_lower y others.0 under.0)

  pub begins : (all lower : List RowEntry) → KeysRise all → StandBefore (kind_of start) all lower → Walked all (lower ++ own_row start (row_of all start)) start
  begins all lower rise it =
      let rises = rise_behind lower it.rest (subst KeysRise it.parts rise) in
      let below = each (λ (entry : RowEntry). kind_of entry.key < kind_of start) (λ (entry : RowEntry). key_order entry.key start ≡ Less) (λ entry lt. lower_kind entry.key start lt) lower it.lower in
      begins_in all lower below it.rest it.parts it.others rises (spot start it.rest rises)

-- ---- a step, and the end

module _ (all found : List RowEntry) (last : RowKey) (rise : KeysRise all) where
  -- what stands above the last key is found behind it
  row_later : (it : Walked all found last) (q : RowKey) → IsBelow last q → row_of all q ≡ row_of it.rest q
  row_later it q below =
      let under = λ (entry : RowEntry) (le : is_gt (key_order entry.key last) ≡ false). le_below entry.key last q _ refl le below in
      ap (λ (l : List RowEntry). row_of l q) it.parts
      ∙ row_behind found it.rest q (each (λ (entry : RowEntry). is_gt (key_order entry.key last) ≡ false) (λ (entry : RowEntry). key_order entry.key q ≡ Less) under found it.passed)

  rest_rises : (it : Walked all found last) → KeysRise it.rest
  rest_rises it = rise_behind found it.rest (subst KeysRise it.parts rise)

  module _ (key : RowKey) (row : Row) (next : IsNext (row_of all) last key row) where
    steps_to : (rest : List RowEntry) → all ≡ found ++ rest → AllByRecursion (λ (entry : RowEntry). is_gt (key_order entry.key last) ≡ false) found → AllAbove last rest
        → ((q : RowKey) → IsBelow last q → row_of all q ≡ row_of rest q) → KeysRise rest → Walked all (found ++ entry_of key row ∷ []) key
    unfolding entry_of
    steps_to [] parts passed above later rises = absurd (false≢true (subst IsSome (later key next.is_above.above) next.is_above.has_row))
    steps_to (x ∷ rest) parts passed above later rises =
        let last_below = above_below x.key last above.0 in
        let not_above = first_least x rest key rises (subst IsSome (later key next.is_above.above) next.is_above.has_row) in
        let x_found = later x.key last_below ∙ ap (λ o. cond (is_eq o) (Some x.row) (row_of rest x.key)) (itself x.key) in
        let kind : kind_of x.key ≡ kind_of last = omega (arith, kinds_rise last x.key (ap is_gt last_below), kinds_rise x.key key not_above, next.is_above.same_kind) in
        let not_under = λ (under : IsBelow x.key key). next.least x.key (record { has_row = subst IsSome (sym x_found) refl; same_kind = kind; above = last_below }) under in
        let level : key_order x.key key ≡ Equal = by (key_order x.key key) refl not_above not_under in
        let same_row = some_row x.row row (sym (ap (λ o. cond (is_eq o) (Some x.row) (row_of rest key)) level) ∙ sym (later key next.is_above.above) ∙ next.its_row) in
        let is_entry : x ≡ entry_of key row = ap (λ (k : RowKey). entry_of k x.row) (same_is_one x.key key (ap is_eq level)) ∙ ap (entry_of key) same_row in
        record {
          rest = rest;
          parts = parts ∙ ap (λ (y : RowEntry). found ++ y ∷ rest) is_entry ∙ snoc_rest found rest (entry_of key row);
          passed = all_snoc (λ (entry : RowEntry). is_gt (key_order entry.key key) ≡ false) found (entry_of key row)
              (each (λ (entry : RowEntry). is_gt (key_order entry.key last) ≡ false) (λ (entry : RowEntry). is_gt (key_order entry.key key) ≡ false) (λ entry le. ap is_gt (le_below entry.key last key _ refl le next.is_above.above)) found passed)
              (ap is_gt (itself key));
          above = over_same entry_key x key rest level rises.0;
        }
      where
        by : (o : Ordering) → key_order x.key key ≡ o → is_gt o ≡ false → (IsBelow x.key key → ⊥) → key_order x.key key ≡ Equal
        by Less e le not_under = absurd (not_under e)
        by Equal e le not_under = e
        by Greater e le not_under = absurd (false≢true (sym le))

    pub steps : Walked all found last → Walked all (found ++ (record { key = key; row = row }) ∷ []) key
    unfolding entry_of
    steps it = steps_to it.rest it.parts it.passed it.above (row_later it) (rest_rises it)

  -- where no key of the kind is above the last one, all rows of the kind are found
  pub ends : HasNoNext (row_of all) last → Walked all found last → StandBefore (kind_of last + 1) all found
  ends none it = record {
    rest = it.rest;
    parts = it.parts;
    lower = each (λ (entry : RowEntry). is_gt (key_order entry.key last) ≡ false) (λ (entry : RowEntry). kind_of entry.key < kind_of last + 1) (λ entry le. omega (arith, kinds_rise entry.key last le)) found it.passed;
    others = behind it.rest it.above (each_found it.rest (rest_rises it));
  }
    where
      one : (x : RowEntry) → IsBelow last x.key → row_of it.rest x.key ≡ Some x.row → kind_of last + 1 ≤ kind_of x.key
      one x below stands =
          let not_same = λ (same : kind_of x.key ≡ kind_of last). none x.key (record { has_row = subst IsSome (sym (row_later it x.key below ∙ stands)) refl; same_kind = same; above = below }) in
          let le = kinds_rise last x.key (ap is_gt below) in
          grind (arith, le, not_same)

      behind : (l : List RowEntry) → AllAbove last l → AllByRecursion (λ (entry : RowEntry). row_of it.rest entry.key ≡ Some entry.row) l → AllByRecursion (λ (entry : RowEntry). kind_of last + 1 ≤ kind_of entry.key) l
      behind [] above found = tt
      behind (x ∷ l) above found = (one x (above_below x.key last above.0) found.0, behind l above.1 found.1)

-- before all kinds nothing is found, and behind the last one all is
pub nothing_before : (all : List RowEntry) → StandBefore 1 all []
nothing_before all = record { rest = all; parts = refl; lower = tt; others = kinds all }
  where
    kinds : (l : List RowEntry) → AllByRecursion (λ (entry : RowEntry). 1 ≤ kind_of entry.key) l
    kinds [] = tt
    kinds (x ∷ l) = (at_least x.key, kinds l)
      where
        at_least : (key : RowKey) → 1 ≤ kind_of key
        at_least key = grind arith

pub all_before : (all found : List RowEntry) → StandBefore 10 all found → found ≡ all
all_before all found it = by it.rest it.parts it.others
  where
    at_most : (key : RowKey) → kind_of key ≤ 9
    at_most key = grind arith

    by : (rest : List RowEntry) → all ≡ found ++ rest → AllByRecursion (λ (entry : RowEntry). 10 ≤ kind_of entry.key) rest → found ≡ all
    by [] parts others = sym (append-nil found) ∙ sym parts
    by (x ∷ rest) parts others = absurd (omega (arith, others.0, at_most x.key))
