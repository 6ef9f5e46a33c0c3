use Rattle.oz_om_session.proofs.CommitRows.{missing}
use Rattle.oz_om_session.proofs.committing.commit.Goals as goal

pub returns-in-Some-clause-reply : goal.returns-in-Some-clause-reply
returns-in-Some-clause-reply g c =
    let all = g.M.RowMap.rows c.args.rows.now in
    rw c.unchanged.ensures.reply (λ namespace stand. missing all c.args.volume.now c.args.bucket.now c.args.key.now c.args.session c.args.pieces.now c.requires namespace c.in_ok-code.field-0 c.in-Some.code c.in-Some.is (c.in_ok-code.ensures.code namespace stand))
