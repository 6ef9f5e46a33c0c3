use Rattle.std.proofs.Common.{◌≡◌, option_copied, sym, ◌∙◌, ap, subst}
use Rattle.oz_tables.specs.Tables.{TableView as Tables}
use Rattle.oz_rows.specs.RowMaps.{row_of}
use Rattle.oz_cache.specs.Cache.{CacheView, newest}
use Rattle.oz_cache.specs.Places.{found, over_row}
use Rattle.oz_cache.proofs.Newest.{newest_row}
use Rattle.oz_cache.proofs.cached.Cached.get.Goals as goal

pub returns-in-Some : goal.returns-in-Some
returns-in-Some c =
    let pending = c.self.inside.pending in
    let key = c.args.key.now in
    let row = row_of pending.durable.rows key in
    subst (λ (w : CacheView). option_copied c.as_ref.result ≡ newest w key) c.self.view_is
    (c.as_ref.ensures.value
    ∙ ap (λ o. over_row o row) (c.in-Some.ensures ∙ ap (λ l. found l key) c.rows.ensures)
    ∙ sym (newest_row pending.batches c.self.inside.newer.rows c.self.invariant.last key row))

pub returns-in-None : goal.returns-in-None
returns-in-None c =
    let pending = c.self.inside.pending in
    let key = c.args.key.now in
    let row = row_of pending.durable.rows key in
    subst (λ (w : CacheView). option_copied c.get.result ≡ newest w key) c.self.view_is
    (c.get.ensures
    ∙ ap (λ (t : Tables). row_of t.rows key) c.tables.ensures
    ∙ ap (λ o. over_row o row) (c.in-None.ensures ∙ ap (λ l. found l key) c.rows.ensures)
    ∙ sym (newest_row pending.batches c.self.inside.newer.rows c.self.invariant.last key row))
