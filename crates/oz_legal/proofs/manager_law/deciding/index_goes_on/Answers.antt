use Rattle.std.proofs.Common.{◌≡◌, ◌<◌, ◌∙◌, ℕ, List, length, sym, ap, subst}
use Rattle.oz_names.specs.Names.{stripe_of}
use Rattle.oz_namespace.specs.declared.namespace.Namespace.{Namespace}
use Rattle.oz_requests.specs.Families.{family_of}
use Rattle.oz_requests.specs.Names.{volume_in}
use Rattle.oz_model.specs.Answers.{Answers}
use Rattle.oz_core.specs.Manager.{last_index}
use Rattle.oz_legal.specs.manager_law.Words.{changes, goes_on, is_service}
use Rattle.oz_legal.proofs.manager_law_lemmas.Goes.{goes, goes-finds}
use Rattle.oz_legal.proofs.manager_law.deciding.index_goes_on.Goals as goal

pub returns : goal.returns
returns c =
    let opening = c.args.opening.now in
    let story = c.args.story.now in
    let request = c.args.request.now in
    let reply = c.args.reply.now in
    let index = c.args.index in
    let namespace = c.args.namespace.now in
    let here : stripe_of (volume_in request) < length namespace.stripes = subst (λ (v : List ℕ). stripe_of v < length namespace.stripes) c.volume.ensures c.has_stripe.ensures in
    let within = subst (λ (n : Namespace). stripe_of (volume_in request) < length n.stripes) c.requires.namespace here in
    let answers = subst (λ (n : Namespace). Answers n request reply) c.requires.namespace c.requires.reply in
    let told : c.goes_on.result ≡ goes_on (is_service (family_of request)) (changes request reply) (last_index opening story) index =
    c.goes_on.ensures ∙ (λ i. goes_on ((c.is_service-is_service.ensures ∙ ap is_service c.family.ensures) i) (c.changes-changes.ensures i) (c.last_index-last.ensures i) index) in (
      λ h. goes opening story request reply index within answers (sym told ∙ h),
      λ is. told ∙ goes-finds opening story request reply index within answers is,
    )
