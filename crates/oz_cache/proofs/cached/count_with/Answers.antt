use Rattle.std.proofs.Common.{◌≡◌, ◌+◌, Some, None, is_some, sym, ◌∙◌, ap, subst, arith, rules}
use mathlib.Core.Bool.{false≢true}
use Rattle.std.specs.Ordering.{is_lt}
use Rattle.oz_rows.specs.Order.{key_order}
use Rattle.oz_rows.specs.laws.Order.{less_from_test}
use Rattle.oz_rows.specs.RowMaps.{row_of, IsBelow}
use Rattle.oz_cache.specs.Places.{found, counted_anew}
use Rattle.oz_cache.proofs.Ahead.{count_above, count_ahead, ahead_first, ahead_next}
use Rattle.oz_cache.proofs.Counting.{Answer, Counted, counts_begin, counts_on, counts_end, one_more_at_most}
use Rattle.oz_cache.proofs.cached.count_with.Goals as goal

pub loop-next-init : goal.loop-next-init
loop-next-init c =
    let rows = c.args.cached.now.rows.entries in
    let from = c.args.from.now in
    record {
      counted = counts_begin c.args.tables.now.rows (found rows) from c.args.to.now c.count-count.result c.count-count.ensures.in_order c.count-count.ensures.count c.first_from-next.result c.first_from-next.ensures;
      small = omega (arith, ahead_first rows from c.first_from-next.result c.first_from-next.ensures, c.count-count.ensures.small);
    }

pub loop-next-smaller : goal.loop-next-smaller
loop-next-smaller c =
    let rows = c.args.cached.now.rows.entries in
    let key = c.in-Some.at.now in
    let was : count_ahead c.loop-next.next rows ≡ 1 + count_above key rows = ap (λ n. count_ahead n rows) c.in-Some.is in
    omega (arith, was, ahead_next rows key c.next-next.result c.next-next.ensures)

pub loop-next-preserved : goal.loop-next-preserved
loop-next-preserved c =
    let tables = c.args.tables.now.rows in
    let rows = c.args.cached.now.rows.entries in
    let from = c.args.from.now in
    let to = c.args.to.now in
    let key = c.in-Some.at in
    let x = c.in-Some.row in
    let below : IsBelow key.now to = less_from_test (key_order key.now to) (sym c.is_below.ensures ∙ c.if-not-is_below.false) in
    let had : c.is_some.result ≡ is_some (row_of tables key.now) = search rules in
    let has : c.is_some-in-Some.result ≡ is_some x.now.row = c.is_some-in-Some.ensures in
    let count_is : c.count_after-count.result ≡ counted_anew c.loop-next.count (is_some (row_of tables key.now)) (is_some x.now.row) = c.count_after-count.ensures ∙ (λ j. counted_anew c.loop-next.count (had j) (has j)) in
    let now = subst (λ (n : Answer). Counted tables (found rows) from to n c.loop-next.count) c.in-Some.is c.loop-next.invariant.counted in
    let next = counts_on tables (found rows) from to key x c.loop-next.count below now c.next-next.result c.next-next.ensures in
    let was : count_ahead c.loop-next.next rows ≡ 1 + count_above key.now rows = ap (λ n. count_ahead n rows) c.in-Some.is in
    record {
      counted = subst (λ n. Counted tables (found rows) from to c.next-next.result n) (sym count_is) next;
      small = omega (arith, count_is, one_more_at_most c.loop-next.count (is_some (row_of tables key.now)) (is_some x.now.row), was, ahead_next rows key.now c.next-next.result c.next-next.ensures, c.loop-next.invariant.small);
    }

pub returns-then-not-is_below : goal.returns-then-not-is_below
returns-then-not-is_below c =
    let tables = c.args.tables.now.rows in
    let rows = c.args.cached.now.rows.entries in
    let to = c.args.to.now in
    let now = subst (λ (n : Answer). Counted tables (found rows) c.args.from.now to n c.loop-next.count) c.in-Some.is c.loop-next.invariant.counted in
    counts_end tables (found rows) c.args.from.now to (Some (c.in-Some.at, c.in-Some.row)) c.loop-next.count (λ below. false≢true (sym (sym c.is_below.ensures ∙ c.if-not-is_below.true) ∙ ap is_lt below)) now

pub returns-in_default : goal.returns-in_default
returns-in_default c =
    let tables = c.args.tables.now.rows in
    let rows = c.args.cached.now.rows.entries in
    let to = c.args.to.now in
    counts_end tables (found rows) c.args.from.now to None c.loop-next.count tt (subst (λ (n : Answer). Counted tables (found rows) c.args.from.now to n c.loop-next.count) c.in_default.is c.loop-next.invariant.counted)
