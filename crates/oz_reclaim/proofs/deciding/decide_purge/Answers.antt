use Rattle.std.proofs.Common.{sym}
use Rattle.oz_rows.specs.RowMaps.{KeysRise}
use Rattle.oz_reclaim.proofs.Decided.{is_service, served}
use Rattle.oz_reclaim.proofs.deciding.decide_purge.Goals as goal

pub serve-requires-clause-service : goal.serve-requires-clause-service
serve-requires-clause-service c = is_service c.args.request.now c.requires.purge

pub returns : goal.returns
returns c =
    let rise : KeysRise c.args.cached.now.durable.rows = rw (sym c.durable.ensures) c.rows_are_in_order.ensures in
    let it = c.in_ok-decision.ensures in
    served c.args.cached.now rise c.args.request.now (is_service c.args.request.now c.requires.purge) c.requires.few c.in_ok-decision.decision it.done it.exact it.operations
