-- A service request leaves all as it was, and is done.
use Rattle.std.proofs.Common.{◌≡◌, refl}
use Rattle.oz_namespace.specs.declared.namespace.Namespace.{Namespace}
use Rattle.oz_requests.specs.declared.reply.Reply.{Reply}
use Rattle.oz_requests.specs.declared.reply.Reply.TheVariants as replies
use Rattle.oz_requests.specs.declared.request.Family.TheVariants.{Service}
use Rattle.oz_requests.specs.declared.request.Request.{Request}
use Rattle.oz_requests.specs.declared.request.Request.TheVariants.{Purge, MoveDeleted, PurgeSnapshot}
use Rattle.oz_requests.specs.Families.{family_of}
use Rattle.oz_requests.specs.Names.{volume_in}
use Rattle.oz_model.specs.declared.scope.Scope.{Scope}
use Rattle.oz_model.specs.Answers.{left, scope_after, AnswersIn, after}
use Rattle.oz_model.specs.Scope.{scope_of}
use Rattle.oz_model.specs.laws.Scopes.{stays}

left_stays : (scope : Scope) (request : Request) (reply : Reply) → family_of request ≡ Service → left scope request reply ≡ scope
left_stays scope (Purge volume rows) reply family = refl
left_stays scope (MoveDeleted volume bucket number to) reply family = refl
left_stays scope (PurgeSnapshot volume bucket number) reply family = refl
left_stays scope request reply family = absurd cc

service_stays : (scope : Scope) (request : Request) (reply : Reply) → family_of request ≡ Service → scope_after scope request reply ≡ scope
service_stays scope request (replies.Code code) family = refl
service_stays scope request reply family = left_stays scope request reply family

pub service_leaves : (namespace : Namespace) (request : Request) (reply : Reply) → family_of request ≡ Service → after namespace request reply ≡ namespace
service_leaves namespace request reply family = stays namespace request reply (service_stays (scope_of namespace (volume_in request)) request reply family)

pub service_is_done : (scope : Scope) (request : Request) (reply : Reply) → family_of request ≡ Service → AnswersIn scope request reply → reply ≡ replies.Done
service_is_done scope (Purge volume rows) reply family answers = answers
service_is_done scope (MoveDeleted volume bucket number to) reply family answers = answers
service_is_done scope (PurgeSnapshot volume bucket number) reply family answers = answers
service_is_done scope request reply family answers = absurd cc
