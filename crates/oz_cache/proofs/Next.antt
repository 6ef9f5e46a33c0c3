-- Which key comes next among tables and cached rows.
use Rattle.std.proofs.Common.{◌≡◌, Bool, true, false, Option, None, Some, IsSome, MatchOption, Bor, refl, sym, ◌∙◌, ap, subst, arith}
use mathlib.Core.Bool.{false≢true}
use Rattle.std.specs.Ordering.{is_eq, is_gt}
use Rattle.std.specs.declared.cmp.Ordering.{Ordering}
use Rattle.std.specs.declared.cmp.Ordering.TheVariants.{Less, Equal, Greater}
use Rattle.oz_rows.specs.declared.key.RowKey.{RowKey}
use Rattle.oz_rows.specs.declared.row.Row.{Row}
use Rattle.oz_rows.specs.Rows.{kind_of}
use Rattle.oz_rows.specs.Order.{key_order}
use Rattle.oz_sorted.specs.Sorted.{IsNext as IsNextOf, HasNoNext as HasNoneAfter}
use Rattle.oz_rows.specs.RowMaps.{Rows, IsBelow, IsAbove, IsNext, HasNoNext}
use Rattle.oz_rows.specs.laws.Order.{key_order_total, greater_from_test, below_above, above_below, kinds_rise}
use Rattle.oz_rows.specs.laws.Same.{same_is_one}
use Rattle.oz_cache.specs.declared.cached_rows.CachedRow.{CachedRow}
use Rattle.oz_cache.specs.Places.{over_row}

-- keys that were passed on the way from a key: none of them has a row
pub record HasPassed (newest : Rows) (key from : RowKey) : Type 0 where
  pub same_kind : kind_of from ≡ kind_of key
  pub not_below : (q : RowKey) → IsBelow from q → IsBelow key q
  pub passed : (q : RowKey) → IsAbove newest key q → IsBelow from q

-- a cached row's key comes before all that the tables have next
pub record ComesFirst (durable : Rows) (from at : RowKey) : Type 0 where
  pub same_kind : kind_of at ≡ kind_of from
  pub first : (q : RowKey) → IsAbove durable from q → IsBelow q at → ⊥

not_less : (a b : RowKey) → is_gt (key_order a b) ≡ false → IsBelow b a → ⊥
not_less a b e below = false≢true (sym e ∙ ap is_gt (below_above b a below))

over_gt : (a b : RowKey) → is_gt (key_order a b) ≡ true → IsBelow b a
over_gt a b e = above_below a b (greater_from_test (key_order a b) e)

-- the newest rows are those of the tables with the cached ones above them
abbrev pub AreOver : Rows → Rows → (RowKey → Option CachedRow) → Type 0
AreOver newest durable cached = (q : RowKey) → newest q ≡ over_row (cached q) (durable q)

-- what a call answers for the next key
abbrev pub Answers : Rows → RowKey → Option (Bor RowKey × Bor Row) → Type 0
Answers rows key answer = MatchOption answer (HasNoNext rows key) (λ found. IsNext rows key found.0.now found.1.now)

-- the test whether a cached row's key comes before what the tables have next
abbrev pub IsBefore : RowKey → RowKey → Option (Bor RowKey × Bor Row) → Type 0
IsBefore at from answer = MatchOption answer (kind_of at ≡ kind_of from) (λ found. is_gt (key_order at found.0.now) ≡ false)

module _ (newest durable : Rows) (cached : RowKey → Option CachedRow) (rows : AreOver newest durable cached) (key from : RowKey) (so : HasPassed newest key from) where
  none_from : HasNoNext newest from → HasNoNext newest key
  none_from none q is_above = none q (record { has_row = is_above.has_row; same_kind = is_above.same_kind ∙ sym so.same_kind; above = so.passed q is_above })

  next_from : (f : RowKey) (row : Row) → IsNext newest from f row → IsNext newest key f row
  next_from f row next = record {
    is_above = record { has_row = next.is_above.has_row; same_kind = next.is_above.same_kind ∙ so.same_kind; above = so.not_below f next.is_above.above };
    its_row = next.its_row;
    least = λ q is_above. next.least q (record { has_row = is_above.has_row; same_kind = is_above.same_kind ∙ sym so.same_kind; above = so.passed q is_above });
  }

  as_tables : (q : RowKey) → (IsSome (cached q) → ⊥) → newest q ≡ durable q
  as_tables q none = rows q ∙ by_row (cached q) none
    where
      by_row : (o : Option CachedRow) → (IsSome o → ⊥) → over_row o (durable q) ≡ durable q
      by_row None none = refl
      by_row (Some x) none = absurd (none refl)

  -- behind the last cached row the tables have the next key
  module _ (none : HasNoneAfter key_order cached from) where
    behind : (q : RowKey) → IsBelow from q → newest q ≡ durable q
    behind q above = as_tables q (λ some. none q (record { has_value = some; above = above }))

    in_tables : (q : RowKey) → IsAbove newest from q → IsAbove durable from q
    in_tables q is_above = record { has_row = subst IsSome (behind q is_above.above) is_above.has_row; same_kind = is_above.same_kind; above = is_above.above }

    pub end_answer : (answer : Option (Bor RowKey × Bor Row)) → Answers durable from answer → Answers newest key answer
    end_answer None no_next = none_from (λ q is_above. no_next q (in_tables q is_above))
    end_answer (Some found) next =
        let f = found.0.now in
        let its = next.is_above in
        next_from f found.1.now (record {
          is_above = record { has_row = subst IsSome (sym (behind f its.above)) its.has_row; same_kind = its.same_kind; above = its.above };
          its_row = behind f its.above ∙ next.its_row;
          least = λ q is_above. next.least q (in_tables q is_above);
        })

  module _ (at : RowKey) (x : CachedRow) (first_cached : IsNextOf key_order cached from at x) where
    at_above : IsBelow from at
    at_above = first_cached.is_above.above

    -- below the cached row only the tables have rows
    as_below : (q : RowKey) → IsBelow from q → IsBelow q at → newest q ≡ durable q
    as_below q above below = as_tables q (λ some. first_cached.least q (record { has_value = some; above = above }) below)

    below_in_tables : (q : RowKey) → IsAbove newest from q → IsBelow q at → IsAbove durable from q
    below_in_tables q is_above below = record { has_row = subst IsSome (as_below q is_above.above below) is_above.has_row; same_kind = is_above.same_kind; above = is_above.above }

    -- a cached row of another kind stands behind all of the kind
    none_of_kind : HasNoNext durable from → (kind_of at ≡ kind_of from → ⊥) → HasNoNext newest key
    none_of_kind none apart = none_from (λ q is_above. none q (below_in_tables q is_above (before q is_above)))
      where
        before : (q : RowKey) → IsAbove newest from q → IsBelow q at
        before q is_above = by_test (is_gt (key_order at q)) refl
          where
            by_test : (t : Bool) → is_gt (key_order at q) ≡ t → IsBelow q at
            by_test true e = over_gt at q e
            by_test false e = absurd (apart (omega (arith, kinds_rise at q e, kinds_rise from at (ap is_gt at_above), is_above.same_kind)))

    next_in_tables : (f : RowKey) (row : Row) → IsNext durable from f row → is_gt (key_order at f) ≡ true → IsNext newest key f row
    next_in_tables f row next before =
        let below = over_gt at f before in
        let same = as_below f next.is_above.above below in
        next_from f row (record {
          is_above = record { has_row = subst IsSome (sym same) next.is_above.has_row; same_kind = next.is_above.same_kind; above = next.is_above.above };
          its_row = same ∙ next.its_row;
          least = λ q is_above under. next.least q (below_in_tables q is_above (key_order_total.trans q f at under below)) under;
        })

    first_of_next : (f : RowKey) (row : Row) → IsNext durable from f row → is_gt (key_order at f) ≡ false → ComesFirst durable from at
    first_of_next f row next le = record {
      same_kind = omega (arith, kinds_rise from at (ap is_gt at_above), kinds_rise at f le, next.is_above.same_kind);
      first = λ q is_above below. next.least q is_above (below_f q below (key_order at f) refl);
    }
      where
        below_f : (q : RowKey) → IsBelow q at → (o : Ordering) → key_order at f ≡ o → IsBelow q f
        below_f q below Less e = key_order_total.trans q at f below e
        below_f q below Equal e = subst (λ k. IsBelow q k) (same_is_one at f (ap is_eq e)) below
        below_f q below Greater e = absurd (false≢true (sym le ∙ ap is_gt e))

    pub tables_answer : (answer : Option (Bor RowKey × Bor Row)) → Answers durable from answer → (IsBefore at from answer → ⊥) → Answers newest key answer
    tables_answer None none not_first = none_of_kind none not_first
    tables_answer (Some found) next not_first = next_in_tables found.0.now found.1.now next (by_test (is_gt (key_order at found.0.now)) refl)
      where
        by_test : (t : Bool) → is_gt (key_order at found.0.now) ≡ t → is_gt (key_order at found.0.now) ≡ true
        by_test true e = e
        by_test false e = absurd (not_first e)

    pub is_first : (answer : Option (Bor RowKey × Bor Row)) → Answers durable from answer → IsBefore at from answer → ComesFirst durable from at
    is_first None none kind = record { same_kind = kind; first = λ q is_above below. none q is_above }
    is_first (Some found) next before = first_of_next found.0.now found.1.now next before

    module _ (first : ComesFirst durable from at) where
      its_own : newest at ≡ x.row
      its_own = rows at ∙ ap (λ o. over_row o (durable at)) first_cached.its_value

      pub next_is_cached : (row : Row) → x.row ≡ Some row → IsNext newest key at row
      next_is_cached row has = next_from at row (record {
        is_above = record { has_row = subst IsSome (sym (its_own ∙ has)) refl; same_kind = first.same_kind; above = at_above };
        its_row = its_own ∙ has;
        least = λ q is_above below. first.first q (below_in_tables q is_above below) below;
      })

      -- a cached row that marks a removal is passed
      pub passes : x.row ≡ None → HasPassed newest key at
      passes none = record {
        same_kind = first.same_kind ∙ so.same_kind;
        not_below = λ q above. so.not_below q (key_order_total.trans from at q at_above above);
        passed = λ q is_above. over_at q is_above (key_order at q) refl;
      }
        where
          over_at : (q : RowKey) → IsAbove newest key q → (o : Ordering) → key_order at q ≡ o → IsBelow at q
          over_at q is_above Less e = e
          over_at q is_above Equal e = absurd (false≢true (subst IsSome (subst (λ k. newest k ≡ None) (same_is_one at q (ap is_eq e)) (its_own ∙ none)) is_above.has_row))
          over_at q is_above Greater e =
              let below = above_below at q e in
              absurd (first.first q (below_in_tables q (record { has_row = is_above.has_row; same_kind = is_above.same_kind ∙ sym so.same_kind; above = so.passed q is_above }) below) below)
