-- What the cached rows between two keys add to a count, one after another.
use Rattle.std.proofs.Common.{◌≡◌, ℕ, ◌+◌, ◌≤◌, Bool, true, false, List, Option, Some, None, IsSome, is_some, MatchOption, Bor, cond, refl, sym, ◌∙◌, ap, subst, arith}
use mathlib.Core.Bool.{false≢true}
use Rattle.std.specs.Ordering.{is_eq}
use Rattle.std.specs.declared.cmp.Ordering.{Ordering}
use Rattle.std.specs.declared.cmp.Ordering.TheVariants.{Less, Equal, Greater}
use Rattle.oz_rows.specs.declared.key.RowKey.{RowKey}
use Rattle.oz_rows.specs.declared.row.Row.{Row}
use Rattle.oz_rows.specs.Order.{key_order}
use Rattle.oz_sorted.specs.Sorted.{IsNext as IsNextOf, HasNoNext as HasNoneAfter}
use Rattle.oz_rows.specs.declared.entry.RowEntry.{RowEntry}
use Rattle.oz_rows.specs.Counts.{IsCount}
use Rattle.oz_rows.specs.RowMaps.{row_of, KeysRise, IsBelow}
use Rattle.oz_rows.specs.laws.Order.{key_order_total, itself, above_below, below_above}
use Rattle.oz_rows.specs.laws.Same.{same_is_one}
use Rattle.oz_rows.specs.laws.RangeCounts.{After, size, size_counts, after_one, one_count, count_alike, range_from}
use Rattle.oz_rows.specs.laws.RangeCounts.{counted_anew as tables_anew}
use Rattle.oz_cache.specs.declared.cached_rows.CachedRow.{CachedRow}
use Rattle.oz_cache.specs.Places.{IsFirst, HasNone, over_row, counted_anew}

-- a row that was found, with its key
abbrev pub Answer : Type 0
Answer = Option (Bor RowKey × Bor CachedRow)

-- what a search for the next cached row answers
abbrev pub AnswersNext : (RowKey → Option CachedRow) → RowKey → Answer → Type 0
AnswersNext cached key answer = MatchOption answer (HasNoneAfter key_order cached key) (λ at. IsNextOf key_order cached key at.0.now at.1.now)

-- what one for the first from a key on answers
abbrev pub AnswersFirst : (RowKey → Option CachedRow) → RowKey → Answer → Type 0
AnswersFirst cached from answer = MatchOption answer (HasNone cached from) (λ at. IsFirst cached from at.0.now at.1.now)

not_itself : (key : RowKey) → IsBelow key key → ⊥
not_itself key below = false≢true (ap is_eq (sym below ∙ itself key))

-- a key that isn't below another is that one or above it
by_order : {P : Type 0} (a b : RowKey) → (IsBelow b a → ⊥) → (a ≡ b → P) → (IsBelow a b → P) → P
by_order {P} a b over same above = by (key_order b a) refl
  where
    by : (o : Ordering) → key_order b a ≡ o → P
    by Less e = absurd (over e)
    by Equal e = same (sym (same_is_one b a (ap is_eq e)))
    by Greater e = above (above_below b a e)

-- a key below one that isn't above another is below it
under : (a b c : RowKey) → IsBelow a b → (IsBelow c b → ⊥) → IsBelow a c
under a b c below over = by_order b c over (λ same. subst (IsBelow a) same below) (λ above. key_order_total.trans a b c below above)

no_row : (o : Option CachedRow) → (IsSome o → ⊥) → (row : Option Row) → over_row o row ≡ row
no_row None none row = refl
no_row (Some x) none row = absurd (none refl)

is_there : (o : Option CachedRow) (x : CachedRow) → o ≡ Some x → IsSome o
is_there o x e = subst IsSome (sym e) refl

-- the first from a key on, where it is the key itself, and where it has no row
pub first_itself : (cached : RowKey → Option CachedRow) (from : RowKey) (x : CachedRow) → cached from ≡ Some x → IsFirst cached from from x
first_itself cached from x e = record { its_row = e; not_below = not_itself from; least = λ q some over below. over below }

pub first_after : (cached : RowKey → Option CachedRow) (from : RowKey) → cached from ≡ None → (answer : Answer) → AnswersNext cached from answer → AnswersFirst cached from answer
first_after cached from none answer next = by answer next
  where
    lacks : (q : RowKey) → IsSome (cached q) → from ≡ q → ⊥
    lacks q some same = false≢true (sym (ap is_some none) ∙ subst (λ k. IsSome (cached k)) (sym same) some)

    by : (answer : Answer) → AnswersNext cached from answer → AnswersFirst cached from answer
    by None no_next = λ q some over. by_order from q over (lacks q some) (λ above. no_next q (record { has_value = some; above = above }))
    by (Some at) next = record {
      its_row = next.its_value;
      not_below = λ below. not_itself from (key_order_total.trans from at.0.now from next.is_above.above below);
      least = λ q some over below. by_order from q over (lacks q some) (λ above. next.least q (record { has_value = some; above = above }) below);
    }

-- a key is passed, where this cached row or none comes next
abbrev pub IsPassed : Answer → RowKey → Type 0
IsPassed None q = Unit {0}
IsPassed (Some at) q = IsBelow q at.0.now

-- rows in order that stand for tables with the passed cached rows above them, and how many are between two keys
pub record Counted (tables : List RowEntry) (cached : RowKey → Option CachedRow) (from to : RowKey) (next : Answer) (count : ℕ) : Type 0 where
  pub rows : List RowEntry
  pub rise : KeysRise rows
  pub passed : (q : RowKey) → (IsBelow q from → ⊥) → IsPassed next q → row_of rows q ≡ over_row (cached q) (row_of tables q)
  pub left : (q : RowKey) → (IsPassed next q → ⊥) → row_of rows q ≡ row_of tables q
  pub sized : count ≡ size from to rows
  pub its_row : MatchOption next (Unit {0}) (λ at. cached at.0.now ≡ Some at.1.now)
  pub not_below : MatchOption next (Unit {0}) (λ at. IsBelow at.0.now from → ⊥)

same_anew : (n : ℕ) (s t : Bool) → tables_anew n s t ≡ counted_anew n s t
same_anew n true true = refl
same_anew n true false = refl
same_anew n false true = refl
same_anew n false false = refl

module _ (tables : List RowEntry) (cached : RowKey → Option CachedRow) (from to : RowKey) where
  pub counts_begin : (count : ℕ) → KeysRise tables → IsCount (row_of tables) from to count → (next : Answer) → AnswersFirst cached from next → Counted tables cached from to next count
  counts_begin count rise is None none = record {
    rows = tables;
    rise = rise;
    passed = λ q over passed. sym (no_row (cached q) (λ some. none q some over) (row_of tables q));
    left = λ q not_passed. refl;
    sized = one_count (row_of tables) from to count _ is (size_counts from to tables rise);
    its_row = tt;
    not_below = tt;
  }
  counts_begin count rise is (Some at) first = record {
    rows = tables;
    rise = rise;
    passed = λ q over passed. sym (no_row (cached q) (λ some. first.least q some over passed) (row_of tables q));
    left = λ q not_passed. refl;
    sized = one_count (row_of tables) from to count _ is (size_counts from to tables rise);
    its_row = first.its_row;
    not_below = first.not_below;
  }

  module _ (key : Bor RowKey) (x : Bor CachedRow) (count : ℕ) (below : IsBelow key.now to) (is : Counted tables cached from to (Some (key, x)) count) where
    after : After from to is.rows key.now x.now.row
    after = after_one from to is.rows key.now x.now.row (range_from from to key.now is.not_below below) is.rise

    had : row_of is.rows key.now ≡ row_of tables key.now
    had = is.left key.now (not_itself key.now)

    apart : (q : RowKey) → IsBelow key.now q → row_of after.now q ≡ row_of is.rows q
    apart q above = after.rows q ∙ ap (λ (t : Bool). cond t x.now.row (row_of is.rows q)) (ap is_eq above)

    at_key : row_of after.now key.now ≡ over_row (cached key.now) (row_of tables key.now)
    at_key =
        after.rows key.now ∙ ap (λ (t : Bool). cond t x.now.row (row_of is.rows key.now)) (ap is_eq (itself key.now))
        ∙ sym (ap (λ o. over_row o (row_of tables key.now)) is.its_row)

    not_key : (q : RowKey) → IsBelow q key.now → row_of after.now q ≡ row_of is.rows q
    not_key q under = after.rows q ∙ ap (λ (t : Bool). cond t x.now.row (row_of is.rows q)) (ap is_eq (below_above q key.now under))

    not_left : (q : RowKey) → IsBelow key.now q → row_of is.rows q ≡ row_of tables q
    not_left q above = is.left q (λ under. not_itself q (key_order_total.trans q key.now q under above))

    sized_on : counted_anew count (is_some (row_of tables key.now)) (is_some x.now.row) ≡ size from to after.now
    sized_on =
        sym (same_anew count (is_some (row_of tables key.now)) (is_some x.now.row))
        ∙ (λ i. tables_anew (is.sized i) (is_some (sym had i)) (is_some x.now.row)) ∙ sym after.sized

    -- up to the next cached row
    passed_on : (q : RowKey) → (IsBelow q from → ⊥) → (IsBelow key.now q → IsSome (cached q) → ⊥) → row_of after.now q ≡ over_row (cached q) (row_of tables q)
    passed_on q over none = by (key_order q key.now) refl
      where
        by : (o : Ordering) → key_order q key.now ≡ o → row_of after.now q ≡ over_row (cached q) (row_of tables q)
        by Less e = not_key q e ∙ is.passed q over e
        by Equal e = subst (λ k. row_of after.now k ≡ over_row (cached k) (row_of tables k)) (sym (same_is_one q key.now (ap is_eq e))) at_key
        by Greater e =
            let above = above_below q key.now e in
            apart q above ∙ not_left q above ∙ sym (no_row (cached q) (none above) (row_of tables q))

    pub counts_on : (next : Answer) → AnswersNext cached key.now next → Counted tables cached from to next (counted_anew count (is_some (row_of tables key.now)) (is_some x.now.row))
    counts_on None none = record {
      rows = after.now;
      rise = after.rise;
      passed = λ q over passed. passed_on q over (λ above some. none q (record { has_value = some; above = above }));
      left = λ q not_passed. absurd (not_passed tt);
      sized = sized_on;
      its_row = tt;
      not_below = tt;
    }
    counts_on (Some at) next = record {
      rows = after.now;
      rise = after.rise;
      passed = λ q over passed. passed_on q over (λ above some. next.least q (record { has_value = some; above = above }) passed);
      left = λ q not_passed. let above = under key.now at.0.now q next.is_above.above not_passed in apart q above ∙ not_left q above;
      sized = sized_on;
      its_row = next.its_value;
      not_below = λ low. is.not_below (key_order_total.trans key.now at.0.now from next.is_above.above low);
    }

  pub counts_end : (next : Answer) (count : ℕ) → MatchOption next (Unit {0}) (λ at. IsBelow at.0.now to → ⊥) → Counted tables cached from to next count → IsCount (λ q. over_row (cached q) (row_of tables q)) from to count
  counts_end next count past is = subst (IsCount (λ q. over_row (cached q) (row_of tables q)) from to) (sym is.sized) (count_alike (row_of is.rows) (λ q. over_row (cached q) (row_of tables q)) from to _ (λ q over below. is.passed q over (passed next past q below)) (size_counts from to is.rows is.rise))
    where
      passed : (next : Answer) → MatchOption next (Unit {0}) (λ at. IsBelow at.0.now to → ⊥) → (q : RowKey) → IsBelow q to → IsPassed next q
      passed None past q below = tt
      passed (Some at) past q below = under q to at.0.now below past

pub one_more_at_most : (n : ℕ) (s t : Bool) → counted_anew n s t ≤ n + 1
one_more_at_most n true true = omega arith
one_more_at_most n true false = omega arith
one_more_at_most n false true = omega arith
one_more_at_most n false false = omega arith
