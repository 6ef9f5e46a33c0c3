use Rattle.std.proofs.Common.{◌≡◌, ◌+◌, refl, sym, ◌∙◌, ap, subst, arith}
use mathlib.Core.Bool.{false≢true}
use Rattle.oz_rows.specs.RowMaps.{row_of}
use Rattle.oz_tables.specs.Tables.{TableView as Tables}
use Rattle.oz_cache.specs.Cache.{CacheView, newest}
use Rattle.oz_cache.specs.Places.{found, over_row}
use Rattle.oz_cache.proofs.Newest.{newest_row}
use Rattle.oz_cache.proofs.Ahead.{count_above, count_ahead, ahead_next}
use Rattle.oz_cache.proofs.Counting.{AnswersNext}
use Rattle.oz_cache.proofs.Next.{tables_answer, is_first, next_is_cached, passes}
use Rattle.oz_cache.proofs.cached.Cached.next.Goals as goal

pub loop-next-init : goal.loop-next-init
loop-next-init c =
    let pending = c.self.inside.pending in
    let all = c.self.inside.newer.rows in
    let rows = c.rows-rows.result.now.rows.entries in
    record {
      passed = record { same_kind = refl; not_below = λ q below. below; passed = λ q is_above. is_above.above };
      cached_next = c.next-next.ensures;
      over = λ q.
          sym (ap (λ (w : CacheView). newest w q) c.self.view_is)
          ∙ newest_row pending.batches all c.self.invariant.last q (row_of pending.durable.rows q)
          ∙ ap (λ l. over_row (found l q) (row_of pending.durable.rows q)) (sym c.rows-rows.ensures)
          ∙ ap (λ (t : Tables). over_row (found rows q) (row_of t.rows q)) (sym c.tables-tables.ensures);
    }

pub loop-next-smaller : goal.loop-next-smaller
loop-next-smaller c =
    let rows = c.rows-rows.result.now.rows.entries in
    let at = c.in-Some.at.now in
    let was : count_ahead c.loop-next.next rows ≡ 1 + count_above at rows = ap (λ n. count_ahead n rows) c.in-Some.is in
    omega (arith, was, ahead_next rows at c.next-next-in-Some.result c.next-next-in-Some.ensures)

pub loop-next-preserved : goal.loop-next-preserved
loop-next-preserved c =
    let cached = found c.rows-rows.result.now.rows.entries in
    let first_cached = subst (AnswersNext cached c.loop-next.from.now) c.in-Some.is c.loop-next.invariant.cached_next in
    let first = is_first (newest c.args.self.now) (row_of c.tables-tables.result.now.rows) (found c.rows-rows.result.now.rows.entries) c.loop-next.invariant.over c.args.key.now c.loop-next.from.now c.loop-next.invariant.passed c.in-Some.at.now c.in-Some.cached.now first_cached c.next-below.result c.next-below.ensures (c.comes_first.ensures.0 c.if-not-comes_first.false) in
    record {
      passed = passes (newest c.args.self.now) (row_of c.tables-tables.result.now.rows) (found c.rows-rows.result.now.rows.entries) c.loop-next.invariant.over c.args.key.now c.loop-next.from.now c.loop-next.invariant.passed c.in-Some.at.now c.in-Some.cached.now first_cached first c.in-None.is;
      cached_next = c.next-next-in-Some.ensures;
      over = c.loop-next.invariant.over;
    }

pub returns-then-not-comes_first : goal.returns-then-not-comes_first
returns-then-not-comes_first c =
    let cached = found c.rows-rows.result.now.rows.entries in
    let first_cached = subst (AnswersNext cached c.loop-next.from.now) c.in-Some.is c.loop-next.invariant.cached_next in
    tables_answer (newest c.args.self.now) (row_of c.tables-tables.result.now.rows) (found c.rows-rows.result.now.rows.entries) c.loop-next.invariant.over c.args.key.now c.loop-next.from.now c.loop-next.invariant.passed c.in-Some.at.now c.in-Some.cached.now first_cached c.next-below.result c.next-below.ensures (λ first. false≢true (sym c.if-not-comes_first.true ∙ c.comes_first.ensures.1 first))

pub returns-in-Some-row : goal.returns-in-Some-row
returns-in-Some-row c =
    let cached = found c.rows-rows.result.now.rows.entries in
    let first_cached = subst (AnswersNext cached c.loop-next.from.now) c.in-Some.is c.loop-next.invariant.cached_next in
    let first = is_first (newest c.args.self.now) (row_of c.tables-tables.result.now.rows) (found c.rows-rows.result.now.rows.entries) c.loop-next.invariant.over c.args.key.now c.loop-next.from.now c.loop-next.invariant.passed c.in-Some.at.now c.in-Some.cached.now first_cached c.next-below.result c.next-below.ensures (c.comes_first.ensures.0 c.if-not-comes_first.false) in
    next_is_cached (newest c.args.self.now) (row_of c.tables-tables.result.now.rows) (found c.rows-rows.result.now.rows.entries) c.loop-next.invariant.over c.args.key.now c.loop-next.from.now c.loop-next.invariant.passed c.in-Some.at.now c.in-Some.cached.now first_cached first c.in-Some-row.row c.in-Some-row.is
