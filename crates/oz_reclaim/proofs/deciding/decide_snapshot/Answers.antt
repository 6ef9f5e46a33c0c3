use Rattle.std.proofs.Common.{sym, ◌∙◌}
use Rattle.oz_cache.specs.Cache.{newest}
use Rattle.oz_rows.specs.RowMaps.{KeysRise}
use Rattle.oz_reclaim.proofs.Recorded.{decided, named_wrong}
use Rattle.oz_reclaim.proofs.deciding.decide_snapshot.Goals as goal

pub returns-in-Some : goal.returns-in-Some
returns-in-Some c =
    let made = c.unchanged.ensures in
    named_wrong (newest c.args.cached.now) c.args.request.now c.requires c.in-Some.code (sym c.name_fault.ensures ∙ c.in-Some.is) c.unchanged.result made.reply made.changes made.bytes

pub returns : goal.returns
returns c =
    let rise : KeysRise c.args.cached.now.durable.rows = rw (sym c.durable.ensures) c.rows_are_in_order.ensures in
    let it = c.in_ok-decision.ensures in
    decided c.args.cached.now rise c.args.request.now c.requires (sym c.name_fault.ensures ∙ c.in_default.is) c.in_ok-decision.decision it.reply it.exact
