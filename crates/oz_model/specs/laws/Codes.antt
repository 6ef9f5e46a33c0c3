-- A request that is refused has its code as its reply, and no other.
use Rattle.std.proofs.Common.{◌≡◌, Some, subst}
use Rattle.oz_names.specs.declared.code.Code.{Code}
use Rattle.oz_requests.specs.declared.reply.Reply.{Reply}
use Rattle.oz_requests.specs.declared.reply.Reply.TheVariants as replies
use Rattle.oz_requests.specs.declared.request.Request.{Request}
use Rattle.oz_requests.specs.declared.request.Request.TheVariants.{AllocateBlock}
use Rattle.oz_model.specs.declared.scope.Scope.{Scope}
use Rattle.oz_model.specs.Answers.{Replies, AnswersIn}
use Rattle.oz_model.specs.Refusals.{refusal}

coded : (scope : Scope) (request : Request) (reply : Reply) (code : Code) → Replies (Some code) scope request reply → reply ≡ replies.Code code
coded scope (AllocateBlock volume bucket key session exclude) reply code is = is.2
coded scope request reply code is = is

-- a request that is refused so has this reply and no other
pub code_alone : (scope : Scope) (request : Request) (reply : Reply) (code : Code) → refusal scope request ≡ Some code → AnswersIn scope request reply
    → reply ≡ replies.Code code
code_alone scope request reply code is answers = coded scope request reply code (subst (λ o. Replies o scope request reply) is answers)
