use Rattle.std.proofs.Common.{sym, ◌∙◌, ap, is_some}
use Rattle.oz_om_key.proofs.om_change_lemmas.Seen.{rename_missing, rename_taken}
use Rattle.oz_om_key.proofs.om_change.renaming.not_renamed.Goals as goal

pub returns-in-Some-clause-code : goal.returns-in-Some-clause-code
returns-in-Some-clause-code g c = λ namespace stand.
    let all = g.M.RowMap.rows c.args.rows.now in
    rename_missing all c.args.volume.now c.args.bucket.now namespace stand c.args.key.now c.args.to.now c.requires.named c.in_ok-code.field-0 c.in-Some.code c.in-Some.is (c.in_ok-code.ensures.code namespace stand)

pub returns-then-has_row-clause-code : goal.returns-then-has_row-clause-code
returns-then-has_row-clause-code g c = λ namespace stand.
    let all = g.M.RowMap.rows c.args.rows.now in
    rename_taken all c.args.volume.now c.args.bucket.now namespace stand c.args.key.now c.args.to.now c.requires.named c.in_ok-code.field-0 _ c.in_default.is (c.in_ok-code.ensures.code namespace stand)
    (ap (λ q. is_some (all q)) (sym c.requires.new) ∙ sym c.has_row.ensures ∙ c.if-has_row.true)

pub returns-clause-code : goal.returns-clause-code
returns-clause-code g c = λ namespace stand.
    let all = g.M.RowMap.rows c.args.rows.now in
    rename_taken all c.args.volume.now c.args.bucket.now namespace stand c.args.key.now c.args.to.now c.requires.named c.in_ok-code.field-0 _ c.in_default.is (c.in_ok-code.ensures.code namespace stand)
    (ap (λ q. is_some (all q)) (sym c.requires.new) ∙ sym c.has_row.ensures ∙ c.if-has_row.false)
