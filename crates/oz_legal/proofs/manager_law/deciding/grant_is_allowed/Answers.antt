use Rattle.std.proofs.Common.{◌≡◌, ◌↔◌, ◌∙◌, ℕ, IfOk, IsTrue, sym, ap, subst}
use Rattle.oz_names.specs.Names.{stripe_of}
use Rattle.oz_requests.specs.declared.reply.Reply.{Reply}
use Rattle.oz_requests.specs.declared.request.Request.{Request}
use Rattle.oz_requests.specs.declared.request.Request.TheVariants.{AllocateBlock}
use Rattle.oz_core.specs.Law.{GrantIsAllowed, MayBeGranted}
use Rattle.oz_legal.proofs.manager_law.deciding.grant_is_allowed.Goals as goal

pub returns-in-AllocateBlock-Granted : goal.returns-in-AllocateBlock-Granted
returns-in-AllocateBlock-Granted c =
    let g = c.in-AllocateBlock-Granted in
    let opening = c.args.opening.now in
    let story = c.args.story.now in
    let stripe : c.stripe_of-stripe.result ≡ stripe_of g.volume = c.stripe_of-stripe.ensures ∙ ap stripe_of c.bytes.ensures in
    subst (λ (request : Request). IfOk c.may_be_granted.result (λ is. IsTrue is ↔ GrantIsAllowed opening story request c.args.reply.now)) (sym g.is-0)
    (subst (λ (reply : Reply). IfOk c.may_be_granted.result (λ is. IsTrue is ↔ GrantIsAllowed opening story (AllocateBlock g.volume g.bucket-0 g.key-0 g.session-0 g.exclude) reply)) (sym g.is-1)
    (subst (λ (to : ℕ). IfOk c.may_be_granted.result (λ is. IsTrue is ↔ MayBeGranted opening story to g.exclude g.block g.pipeline)) stripe c.may_be_granted.ensures))
