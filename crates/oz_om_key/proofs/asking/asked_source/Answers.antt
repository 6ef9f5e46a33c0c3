use Rattle.oz_om_key.proofs.Snapshots.{asked_itself}
use Rattle.oz_om_key.proofs.asking.asked_source.Goals as goal

pub returns-in-Some : goal.returns-in-Some
returns-in-Some g c = rw c.in-Some.is c.snapshot_named.ensures

pub returns-in-None : goal.returns-in-None
returns-in-None g c = rw c.in-None.is (asked_itself (g.M.RowMap.rows c.args.rows.now) c.args.volume.now c.args.bucket.now)
