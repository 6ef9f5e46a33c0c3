use Rattle.std.proofs.Common.{sym}
use Rattle.oz_cache.specs.Cache.{newest}
use Rattle.oz_rows.specs.RowMaps.{KeysRise}
use Rattle.oz_om.proofs.decider_lemmas.Choice.{is_opening}
use Rattle.oz_om.proofs.decider_lemmas.Listed.{entries_of, are_listed}
use Rattle.oz_om.proofs.decider_lemmas.Made.{of_opening}
use Rattle.oz_om.proofs.decider.deciding.open.Goals as goal

pub decide_open-requires : goal.decide_open-requires
decide_open-requires c = is_opening c.args.request.now c.requires

pub returns : goal.returns
returns c =
    let rise : KeysRise c.args.cached.now.durable.rows = rw (sym c.durable.ensures) c.rows_are_in_order.ensures in
    let it = c.decide_open.ensures in
    of_opening (newest c.args.cached.now) c.args.request.now (entries_of c.args.cached.now rise) (are_listed c.args.cached.now rise) c.decide_open.result c.requires it.meets it.but_renames it.safe it.exact it.operations it.recorded it.size
