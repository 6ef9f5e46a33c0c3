use Rattle.oz_om_session.proofs.Granting.{refused_missing}
use Rattle.oz_om_session.proofs.allocating.not_granted.Goals as goal

pub returns-in-Some-clause-code : goal.returns-in-Some-clause-code
returns-in-Some-clause-code g c = λ namespace stand.
    let all = g.M.RowMap.rows c.args.rows.now in
    refused_missing all c.args.volume.now c.args.bucket.now namespace stand c.args.key.now c.args.session c.args.exclude.now c.requires.named c.in_ok-code.field-0 c.in-Some.code c.in-Some.is (c.in_ok-code.ensures.code namespace stand)
