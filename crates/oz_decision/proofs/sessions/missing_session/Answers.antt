use Rattle.std.proofs.Common.{sym, ◌∙◌, ap}
use Rattle.oz_decision.specs.Sessions.{is_open}
use Rattle.oz_decision.specs.laws.Sessions.{session_missing}
use Rattle.oz_decision.proofs.sessions.missing_session.Goals as goal

pub returns-then-is_open-clause-code : goal.returns-then-is_open-clause-code
returns-then-is_open-clause-code g c = λ namespace stand.
    let all = g.M.RowMap.rows c.args.rows.now in
    session_missing all c.args.volume.now c.args.bucket.now namespace stand c.args.key.now c.args.number c.in_ok-code.field-0 _ c.in_default.is (c.in_ok-code.ensures.code namespace stand)
    (sym c.if-is_open.true ∙ c.is_open.ensures ∙ ap (λ q. is_open c.args.number (all q)) c.requires)

pub returns-clause-code : goal.returns-clause-code
returns-clause-code g c = λ namespace stand.
    let all = g.M.RowMap.rows c.args.rows.now in
    session_missing all c.args.volume.now c.args.bucket.now namespace stand c.args.key.now c.args.number c.in_ok-code.field-0 _ c.in_default.is (c.in_ok-code.ensures.code namespace stand)
    (sym c.if-is_open.false ∙ c.is_open.ensures ∙ ap (λ q. is_open c.args.number (all q)) c.requires)
