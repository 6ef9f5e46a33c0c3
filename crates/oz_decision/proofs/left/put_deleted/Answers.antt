use Rattle.oz_decision.specs.laws.SessionRows.{deleted_of}
use Rattle.oz_decision.proofs.left.put_deleted.Goals as goal

pub put-requires : goal.put-requires
put-requires c =
    let first = c.in-Some.ensures.item in
    rw c.in_ok-of_deleted.ensures (deleted_of c.args.volume.now c.args.bucket.now c.args.key.now c.requires.named c.args.blocks c.items.result.now c.in-Some.first.now c.items.ensures first.3.0 first.1 c.requires.blocks)
