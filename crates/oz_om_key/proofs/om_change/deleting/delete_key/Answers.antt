use Rattle.oz_om_key.proofs.om_change_lemmas.KeyRows.{key_fits, blocks_fit}
use Rattle.oz_om_key.proofs.om_change_lemmas.Seen.{not_deleted, deleted}
use Rattle.oz_om_key.proofs.om_change.deleting.delete_key.Goals as goal

pub returns-in-Some-clause-reply : goal.returns-in-Some-clause-reply
returns-in-Some-clause-reply g c =
    let all = g.M.RowMap.rows c.args.rows.now in
    rw c.unchanged.ensures.reply (λ namespace stand. not_deleted all c.args.volume.now c.args.bucket.now namespace stand c.args.key.now c.requires c.in_ok-code.field-0 c.in-Some.code c.in-Some.is (c.in_ok-code.ensures.code namespace stand))

pub delete_row-requires-clause-key : goal.delete_row-requires-clause-key
delete_row-requires-clause-key g c = rw c.in_ok-of_key.ensures (key_fits c.args.volume.now c.args.bucket.now c.args.key.now c.requires)

pub delete_row-requires-clause-blocks : goal.delete_row-requires-clause-blocks
delete_row-requires-clause-blocks g c =
    let all = g.M.RowMap.rows c.args.rows.now in
    rw c.in_ok-of_key.ensures (blocks_fit all c.args.volume.now c.args.bucket.now c.args.key.now (c.in_ok-code.ensures.none c.in_default.is))

pub returns-clause-reply : goal.returns-clause-reply
returns-clause-reply g c =
    let all = g.M.RowMap.rows c.args.rows.now in
    rw c.with_reply.ensures.reply (λ namespace stand. deleted all c.args.volume.now c.args.bucket.now namespace stand c.args.key.now c.requires c.in_ok-code.field-0 c.in_default.is (c.in_ok-code.ensures.code namespace stand))
