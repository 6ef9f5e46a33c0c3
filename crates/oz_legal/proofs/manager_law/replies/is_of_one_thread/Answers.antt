use Rattle.std.proofs.Common.{ℕ, Some, subst}
use Rattle.oz_fields.specs.declared.block.Block.{Block}
use Rattle.oz_model.specs.Grants.{IsPicked}
use Rattle.oz_legal.proofs.manager_law_lemmas.Alone.{alone}
use Rattle.oz_legal.proofs.manager_law.replies.is_of_one_thread.Goals as goal

pub returns : goal.returns
returns c =
    let given = c.in_ok-answered.answered.0 in
    let picked = subst (λ (pick : Block × ℕ). IsPicked (Some pick) given) c.granted_or_any.ensures c.in_ok-answered.ensures.picked in
    let both = alone c.args.namespace.now c.args.request.now given c.args.reply.now c.in_ok-answered.ensures.reply picked in
    (λ h. both.0 (c.is_same_reply.ensures.0 h), λ is. c.is_same_reply.ensures.1 (both.1 is))
