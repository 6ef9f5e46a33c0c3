use Rattle.oz_tables.specs.built.Steps.{operations_of}
use Rattle.oz_tables.specs.built.laws.Lefts.{content_left, all_told}
use Rattle.oz_tables.proofs.built.needs.is_content_left.Goals as goal

pub returns : goal.returns
returns c =
    let own = c.in_ok-keys.ensures in
    let open_keys = c.in_ok-sessions.ensures in
    let snapshots = c.in_ok-snapshots.ensures in
    let left = content_left c.args.tables.now.rows (operations_of c.args.steps.now) c.args.volume.now c.args.bucket.now c.args.base.now own.part open_keys.part snapshots.part c.requires own.is open_keys.is snapshots.is in
    all_told _ _ _ _ _ _ _ left own.told open_keys.told snapshots.told
