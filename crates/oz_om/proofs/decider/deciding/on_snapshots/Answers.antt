use Rattle.std.proofs.Common.{sym}
use Rattle.oz_cache.specs.Cache.{newest}
use Rattle.oz_rows.specs.RowMaps.{KeysRise}
use Rattle.oz_om.proofs.decider_lemmas.Choice.{is_on_snapshots}
use Rattle.oz_om.proofs.decider_lemmas.Listed.{entries_of, are_listed}
use Rattle.oz_om.proofs.decider_lemmas.Made.{of_snapshots}
use Rattle.oz_om.proofs.decider.deciding.on_snapshots.Goals as goal

pub decide_snapshot-requires : goal.decide_snapshot-requires
decide_snapshot-requires c = is_on_snapshots c.args.request.now c.requires

pub returns : goal.returns
returns c =
    let rise : KeysRise c.args.cached.now.durable.rows = rw (sym c.durable.ensures) c.rows_are_in_order.ensures in
    of_snapshots (newest c.args.cached.now) c.args.request.now (entries_of c.args.cached.now rise) (are_listed c.args.cached.now rise) c.in_ok-decision.decision c.requires c.in_ok-decision.ensures
