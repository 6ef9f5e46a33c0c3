use Rattle.std.proofs.Common.{refl}
use Rattle.oz_requests.specs.declared.reply.Reply.TheVariants as replies
use Rattle.oz_requests.specs.Names.{volume_in}
use Rattle.oz_model.specs.Answers.{Answers}
use Rattle.oz_model.specs.Scope.{scope_of}
use Rattle.oz_model.specs.laws.Scopes.{stays}
use Rattle.oz_model.specs.laws.Service.{service_leaves, service_is_done}
use Rattle.oz_model.proofs.laws.a_refusal_or_a_service_request_changes_nothing.Goals as goal

pub returns-clause-refusal : goal.returns-clause-refusal
returns-clause-refusal c = λ namespace request code. stays namespace request (replies.Code code) refl

pub returns-clause-service : goal.returns-clause-service
returns-clause-service c = service_leaves

pub returns-clause-done : goal.returns-clause-done
unfolding Answers
returns-clause-done c = λ namespace request reply. service_is_done (scope_of namespace (volume_in request)) request reply
