use Rattle.std.proofs.Common.{◌≡◌, true, false, Option, IfNone, IfSome, sym, ◌∙◌, subst}
use Rattle.oz_om_session.specs.Sessions.{are_committed}
use Rattle.oz_om_session.proofs.CommitRows.{opened, session_fits, key_fits, refused, done}
use Rattle.oz_om_session.proofs.committing.commit_open.Goals as goal

pub put_left-requires-clause-blocks : goal.put_left-requires-clause-blocks
put_left-requires-clause-blocks g c =
    let all = g.M.RowMap.rows c.args.rows.now in
    rw c.requires.key ((opened all c.args.volume.now c.args.bucket.now c.args.key.now c.args.session c.args.pieces.now c.requires.named c.requires.there).blocks_fit)

pub returns-in_default-clause-reply : goal.returns-in_default-clause-reply
returns-in_default-clause-reply g c =
    let all = g.M.RowMap.rows c.args.rows.now in
    let told = subst (λ (o : Option _). IfNone o (are_committed (all c.args.of_session) (all c.in_ok-of_key.of_key) c.items.result.now ≡ false)) c.in_default.is c.in_ok-draft.ensures.none in
    let fit = (λ i. are_committed (all (sym c.requires.key i)) (all (sym c.in_ok-of_key.ensures i)) (sym c.items.ensures i)) ∙ told in
    rw c.unchanged.ensures.reply (λ namespace stand. refused all c.args.volume.now c.args.bucket.now c.args.key.now c.args.session c.args.pieces.now c.requires.named c.requires.there namespace stand fit)

pub put_key-requires-clause-session : goal.put_key-requires-clause-session
put_key-requires-clause-session g c =
    let all = g.M.RowMap.rows c.args.rows.now in
    rw c.requires.key (session_fits all c.args.volume.now c.args.bucket.now c.args.key.now c.args.session c.args.pieces.now c.requires.named c.requires.there)

pub put_key-requires-clause-key : goal.put_key-requires-clause-key
put_key-requires-clause-key g c =
    let all = g.M.RowMap.rows c.args.rows.now in
    let told = subst (λ (o : Option _). IfSome o (λ draft. are_committed (all c.args.of_session) (all c.in_ok-of_key.of_key) c.items.result.now ≡ true)) c.in-Some.is c.in_ok-draft.ensures.some in
    let fit = (λ i. are_committed (all (sym c.requires.key i)) (all (sym c.in_ok-of_key.ensures i)) (sym c.items.ensures i)) ∙ told in
    rw c.in_ok-of_key.ensures (key_fits all c.args.volume.now c.args.bucket.now c.args.key.now c.args.session c.args.pieces.now c.requires.named c.requires.there fit)

pub returns-clause-reply : goal.returns-clause-reply
returns-clause-reply g c =
    let all = g.M.RowMap.rows c.args.rows.now in
    let told = subst (λ (o : Option _). IfSome o (λ draft. are_committed (all c.args.of_session) (all c.in_ok-of_key.of_key) c.items.result.now ≡ true)) c.in-Some.is c.in_ok-draft.ensures.some in
    let fit = (λ i. are_committed (all (sym c.requires.key i)) (all (sym c.in_ok-of_key.ensures i)) (sym c.items.ensures i)) ∙ told in
    rw c.with_reply.ensures.reply (λ namespace stand. done all c.args.volume.now c.args.bucket.now c.args.key.now c.args.session c.args.pieces.now c.requires.named c.requires.there namespace stand fit)
