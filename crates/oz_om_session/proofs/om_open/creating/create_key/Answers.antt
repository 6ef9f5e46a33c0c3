use Rattle.std.proofs.Common.{◌∙◌, ◌+◌, ap, arith, sym}
use Rattle.oz_model.specs.Scope.{scope_of}
use Rattle.oz_model.specs.laws.Order.{refused_so}
use Rattle.oz_requests.specs.declared.request.Request.TheVariants.{CreateKey}
use Rattle.oz_om_session.proofs.om_open_lemmas.Opening.{answers}
use Rattle.oz_om_session.proofs.om_open.creating.create_key.Goals as goal

pub returns-in-Some-clause-reply : goal.returns-in-Some-clause-reply
returns-in-Some-clause-reply g c =
    rw c.unchanged.ensures.reply (λ namespace stand. refused_so (scope_of namespace c.args.volume.now) (CreateKey c.args.volume.now c.args.bucket.now c.args.key.now) c.in-Some.code (sym (c.in_ok-code.ensures.code namespace stand) ∙ c.in-Some.is))

pub returns-clause-reply : goal.returns-clause-reply
returns-clause-reply g c =
    let all = g.M.RowMap.rows c.args.rows.now in
    rw c.with_reply.ensures.reply (λ namespace stand. answers all c.args.volume.now c.args.bucket.now c.args.key.now c.requires namespace stand c.drawn_numbers-drawn.result c.drawn_numbers-drawn.ensures (sym c.in_default.is ∙ c.in_ok-code.ensures.code namespace stand))

pub returns-clause-allowed : goal.returns-clause-allowed
returns-clause-allowed g c =
    let few = c.in_ok-code.ensures.few c.in_default.is in
    rw c.with_reply.ensures.reply (record { bucket_there = c.in_ok-code.ensures.there c.in_default.is; next = ap (λ d. d + 1) c.drawn_numbers-drawn.ensures; few = omega (arith, few) })
