use Rattle.oz_om_session.proofs.om_open_lemmas.Ended.{missing, answers}
use Rattle.oz_om_session.proofs.om_open.expiring.expire_open.Goals as goal

pub returns-in-Some-clause-reply : goal.returns-in-Some-clause-reply
returns-in-Some-clause-reply g c =
    rw c.unchanged.ensures.reply (λ namespace stand. missing c.args.volume.now c.args.bucket.now c.requires namespace c.in_ok-code.field-0 c.in-Some.code c.in-Some.is (c.in_ok-code.ensures.code namespace stand))

pub returns-clause-reply : goal.returns-clause-reply
returns-clause-reply g c =
    rw c.with_reply.ensures.reply (λ namespace stand. answers c.args.volume.now c.args.bucket.now c.requires namespace c.in_ok-code.field-0 c.in_default.is (c.in_ok-code.ensures.code namespace stand) c.in_ok-count.count (c.in_ok-count.ensures.shows namespace stand))
