use Rattle.std.proofs.Common.{sym, ◌∙◌, ap, subst}
use Rattle.oz_rows.specs.Counts.{IsCount}
use Rattle.oz_tables.specs.Tables.{TableView as Tables}
use Rattle.oz_rows.specs.RowMaps.{row_of, row_after}
use Rattle.oz_rows.specs.laws.RangeCounts.{count_alike}
use Rattle.oz_cache.specs.Cache.{CacheView, newest, batched_changes}
use Rattle.oz_cache.specs.Places.{found, over_row, over_rows}
use Rattle.oz_cache.proofs.Newest.{newest_row}
use Rattle.oz_cache.proofs.cached.Cached.count.Goals as goal

pub returns : goal.returns
returns c =
    let pending = c.self.inside.pending in
    let newer = c.self.inside.newer.rows in
    let rows = c.rows.result.now.rows.entries in
    let from = c.args.from.now in
    let to = c.args.to.now in
    let count = c.count_with.result in
    let here : IsCount (over_rows rows (row_of pending.durable.rows)) from to count = subst (λ (t : Tables). IsCount (over_rows rows (row_of t.rows)) from to count) c.tables.ensures c.count_with.ensures in
    subst (λ (w : CacheView). IsCount (newest w) from to count) c.self.view_is
    (count_alike (over_rows rows (row_of pending.durable.rows)) (λ key. row_after (batched_changes pending.batches) key (row_of pending.durable.rows key)) from to count
    (λ key over below.
    ap (λ l. over_row (found l key) (row_of pending.durable.rows key)) c.rows.ensures
    ∙ sym (newest_row pending.batches newer c.self.invariant.last key (row_of pending.durable.rows key))) here)
