use Rattle.std.proofs.Common.{sym, ◌∙◌, ap}
use Rattle.oz_om_key.specs.om_change.Keys.{is_key}
use Rattle.oz_om_key.proofs.om_change_lemmas.Seen.{key_missing}
use Rattle.oz_om_key.proofs.om_change.keys.missing_key.Goals as goal

pub returns-then-is_key-clause-code : goal.returns-then-is_key-clause-code
returns-then-is_key-clause-code g c = λ namespace stand.
    let all = g.M.RowMap.rows c.args.rows.now in
    key_missing all c.args.volume.now c.args.bucket.now namespace stand c.args.key.now c.in_ok-code.field-0 _ c.in_default.is (c.in_ok-code.ensures.code namespace stand)
    (sym c.if-is_key.true ∙ c.is_key.ensures.same ∙ ap (λ q. is_key (all q)) c.requires)

pub returns-clause-code : goal.returns-clause-code
returns-clause-code g c = λ namespace stand.
    let all = g.M.RowMap.rows c.args.rows.now in
    key_missing all c.args.volume.now c.args.bucket.now namespace stand c.args.key.now c.in_ok-code.field-0 _ c.in_default.is (c.in_ok-code.ensures.code namespace stand)
    (sym c.if-is_key.false ∙ c.is_key.ensures.same ∙ ap (λ q. is_key (all q)) c.requires)
