use Rattle.std.proofs.Common.{◌≡◌, List, map, rules, refl, ap, ◌∙◌, subst}
use Rattle.oz_fields.specs.declared.block.Block.{Block}
use Rattle.oz_locks.specs.Pins.{pinned_blocks}
use Rattle.oz_locks.specs.Reclaims.{AreFound}
use Rattle.oz_reclaim.specs.declared.finding.TheConstants.{MOST_PURGED}
use Rattle.oz_rows.specs.RowMaps.{row_of}
use Rattle.oz_tables.specs.Tables.{TableView}
use Rattle.oz_om.specs.Purging.{dated, with_blocks}
use Rattle.oz_om.proofs.Sought.{counted_of, sought}
use Rattle.oz_om.proofs.purging.find.Goals as goal

pub returns-clause-found : goal.returns-clause-found
returns-clause-found g c = λ coherent.
    let s = c.args.stripe.now in
    let tables = row_of s.cache.durable.rows in
    let found = c.in_ok-found.found in
    let same = c.sweep.ensures.same in
    let are = subst (λ (l : List Block). AreFound tables l MOST_PURGED found) (λ i. pinned_blocks (same i).pins)
    (c.in_ok-found.ensures.found tables (c.in_ok-sweep.ensures.swept (c.requires.opens.agrees.0 coherent))) in
    let rows = c.in_ok-rows.ensures
    ∙ (ap (λ (t : TableView). map (with_blocks (row_of t.rows)) c.as_slice.result.now) (c.durable.ensures ∙ (ap (λ v. v.durable) c.cached.ensures ∙ λ i. (same i).cache.durable))
    ∙ ap (map (with_blocks tables)) c.as_slice.ensures.value) in
    sought g.O.Opened.coherent g.L.Loaded.coherent g.O.Opened.opening g.O.Opened.bytes g.O.Opened.script g.L.Loaded.rows g.L.Loaded.last_index g.L.Loaded.keeps
    c.requires.opens s c.requires.rests c.requires.follow coherent c.is_kept.ensures.kept c.requires.untold found _ are rows refl

pub returns-clause-counted : goal.returns-clause-counted
returns-clause-counted g c =
    let s = c.args.stripe.now in
    let tables = row_of s.cache.durable.rows in
    let same = c.sweep.ensures.same in
    let rows = c.in_ok-rows.ensures
    ∙ (ap (λ (t : TableView). map (with_blocks (row_of t.rows)) c.as_slice.result.now) (c.durable.ensures ∙ (ap (λ v. v.durable) c.cached.ensures ∙ λ i. (same i).cache.durable))
    ∙ ap (map (with_blocks tables)) c.as_slice.ensures.value) in
    counted_of g.O.Opened.opening s.seen tables c.in_ok-found.found.rows.items _ rows (c.in_ok-since.ensures ∙ ap (map dated) c.as_slice-2.ensures.value)
    c.requires.durable c.in_ok-found.ensures.in_order c.in_ok-found.ensures.few (search rules)
