use Rattle.std.proofs.Common.{◌≡◌, ◌∙◌, IfOk, subst, ap}
use Rattle.oz_namespace.specs.declared.namespace.Namespace.{Namespace}
use Rattle.oz_requests.specs.Names.{volume_in}
use Rattle.oz_model.specs.declared.scope.Scope.{Scope}
use Rattle.oz_model.specs.Answers.{after, scope_after}
use Rattle.oz_model.specs.Scope.{scope_of, with_scope}
use Rattle.oz_replay.proofs.leaving.after.Goals as goal

pub returns : goal.returns
unfolding after
returns c =
    let namespace = c.args.namespace in
    let request = c.args.request.now in
    let reply = c.args.reply.now in
    let volume_is : c.in_ok-volume.volume ≡ volume_in request = c.in_ok-volume.ensures ∙ c.volume.ensures in
    let is : c.in_ok-scope.scope ≡ scope_of namespace (volume_in request) = c.in_ok-scope.ensures ∙ ap (scope_of namespace) volume_is in
    let left_is : c.in_ok-left.left ≡ scope_after (scope_of namespace (volume_in request)) request reply = c.in_ok-left.ensures ∙ ap (λ (scope : Scope). scope_after scope request reply) is in
    subst (λ (n : Namespace). IfOk c.with_scope.result (λ it. it ≡ n)) (λ i. with_scope namespace (volume_is i) (left_is i)) c.with_scope.ensures
