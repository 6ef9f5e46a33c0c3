use Rattle.std.proofs.Common.{◌≡◌, ◌∙◌, subst, ap}
use Rattle.oz_requests.specs.Names.{volume_in}
use Rattle.oz_model.specs.declared.scope.Scope.{Scope}
use Rattle.oz_model.specs.Answers.{Answers, AnswersIn, after, scope_after}
use Rattle.oz_model.specs.Scope.{scope_of, with_scope}
use Rattle.oz_model.proofs.answering.answer.Goals as goal

pub returns-clause-reply : goal.returns-clause-reply
unfolding Answers
returns-clause-reply c =
    let namespace = c.args.namespace.now in
    let request = c.args.request.now in
    let reply = c.in_ok-answered.answered.reply in
    let is : c.in_ok-scope.scope ≡ scope_of namespace (volume_in request) = c.in_ok-scope.ensures ∙ ap (scope_of namespace) (c.in_ok-volume.ensures ∙ c.volume.ensures) in
    subst (λ (scope : Scope). AnswersIn scope request reply) is c.in_ok-answered.ensures.reply

pub returns-clause-left : goal.returns-clause-left
unfolding after
returns-clause-left c =
    let namespace = c.args.namespace.now in
    let request = c.args.request.now in
    let reply = c.in_ok-answered.answered.reply in
    let volume_is : c.in_ok-volume.volume ≡ volume_in request = c.in_ok-volume.ensures ∙ c.volume.ensures in
    let is : c.in_ok-scope.scope ≡ scope_of namespace (volume_in request) = c.in_ok-scope.ensures ∙ ap (scope_of namespace) volume_is in
    let left_is : c.in_ok-answered.answered.left ≡ scope_after (scope_of namespace (volume_in request)) request reply = c.in_ok-answered.ensures.left ∙ ap (λ (scope : Scope). scope_after scope request reply) is in
    c.in_ok-left.ensures ∙ (λ i. with_scope namespace (volume_is i) (left_is i))
