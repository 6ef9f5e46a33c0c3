use Rattle.std.proofs.Common.{sym, ◌∙◌, ap, subst}
use mathlib.Core.Bool.{false≢true}
use Rattle.std.specs.Cmp.Lexicographic.{slice_cmp}
use Rattle.std.specs.Ordering.{nat_cmp, is_lt}
use Rattle.oz_om_key.specs.Walking.{AreFirst}
use Rattle.oz_om_key.proofs.Listed.{less_from, begins_under, begins_at_start}
use Rattle.oz_om_key.proofs.listing.first_names.Goals as goal

pub returns-in_ok-first-clause-first : goal.returns-in_ok-first-clause-first
returns-in_ok-first-clause-first g c = λ keys have.
    let place = c.args.place.now in
    let start = c.args.start.now in
    let prefix = c.args.prefix.now in
    let under = less_from (slice_cmp nat_cmp start prefix) (sym c.lt.ensures ∙ c.if-lt.true) in
    begins_under (g.M.RowMap.rows c.args.rows.now) place.volume.now place.bucket.now place.source keys have prefix start under c.in_ok-from.from c.in_ok-from.ensures c.in_ok-first.first.items c.in_ok-first.ensures

pub returns-in_ok-row_key-clause-first : goal.returns-in_ok-row_key-clause-first
returns-in_ok-row_key-clause-first g c = λ keys have.
    let place = c.args.place.now in
    let start = c.args.start.now in
    let prefix = c.args.prefix.now in
    subst (AreFirst keys place.volume.now place.bucket.now place.source prefix start c.in_ok-row_key.field-0) (sym c.new.ensures.items)
    (begins_at_start (g.M.RowMap.rows c.args.rows.now) place.volume.now place.bucket.now place.source keys have prefix start
    (λ e. false≢true (sym (sym c.lt.ensures ∙ c.if-lt.false) ∙ ap is_lt e)) c.in_ok-row_key.field-0 c.in_ok-row_key.ensures)
