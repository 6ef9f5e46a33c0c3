use Rattle.std.proofs.Common.{sym}
use Rattle.oz_cache.specs.Cache.{newest}
use Rattle.oz_rows.specs.RowMaps.{KeysRise}
use Rattle.oz_om.proofs.decider_lemmas.Choice.{is_service, names_few}
use Rattle.oz_om.proofs.decider_lemmas.Listed.{entries_of, are_listed}
use Rattle.oz_om.proofs.decider_lemmas.Made.{of_service}
use Rattle.oz_om.proofs.decider.deciding.reclaim.Goals as goal

pub decide-requires-clause-service : goal.decide-requires-clause-service
decide-requires-clause-service c = is_service c.args.request.now c.requires

pub decide-requires-clause-few : goal.decide-requires-clause-few
decide-requires-clause-few c = names_few c.args.request.now c.requires

pub returns : goal.returns
returns c =
    let rise : KeysRise c.args.cached.now.durable.rows = rw (sym c.durable.ensures) c.rows_are_in_order.ensures in
    of_service (newest c.args.cached.now) c.args.request.now (entries_of c.args.cached.now rise) (are_listed c.args.cached.now rise) c.in_ok-decision.decision c.requires c.in_ok-decision.ensures
