use Rattle.std.proofs.Common.{sym, ◌∙◌, ap, subst, ◌++◌, ◌∷◌, [], List}
use Rattle.oz_fields.specs.declared.block.Block.{Block}
use Rattle.oz_model.specs.Scope.{scope_of}
use Rattle.oz_model.specs.laws.Order.{refused_so}
use Rattle.oz_requests.specs.declared.request.Request.TheVariants.{AllocateBlock}
use Rattle.oz_om_session.specs.Picks.{IsPick}
use Rattle.oz_decision.specs.Sessions.{blocks_at}
use Rattle.oz_om_session.proofs.Granting.{row_fits}
use Rattle.oz_om_session.proofs.allocating.allocate.Goals as goal

pub returns-in-Some-clause-reply : goal.returns-in-Some-clause-reply
returns-in-Some-clause-reply g c =
    rw c.unchanged.ensures.reply (λ namespace stand. refused_so (scope_of namespace c.args.volume.now) (AllocateBlock c.args.volume.now c.args.bucket.now c.args.key.now c.args.session c.args.exclude.now) c.in-Some.code (sym (c.in_ok-code.ensures.code namespace stand) ∙ c.in-Some.is))

pub put-requires : goal.put-requires
put-requires g c =
    let all = g.M.RowMap.rows c.args.rows.now in
    let block = c.in-Some-pick.block in
    let blocks = c.in_ok-blocks.ensures ∙ ap (λ (l : List Block). l ++ block ∷ []) (c.session_blocks.ensures ∙ ap (λ q. blocks_at (all q)) c.in_ok-of_session.ensures) in
    rw (c.in_ok-of_session.ensures, blocks) (row_fits all c.args.volume.now c.args.bucket.now c.args.key.now c.args.session c.args.exclude.now c.requires.named (c.in_ok-code.ensures.none c.in_default.is) block (subst IsPick c.in-Some-pick.is c.requires.pick))
