-- One thread has one reply to a request, but for the block that it grants.
use Rattle.std.proofs.Common.{◌≡◌, ◌↔◌, ◌∙◌, ℕ, Option, None, Some, sym, ap, subst}
use Rattle.std.specs.Option.{unwrap_or}
use Rattle.oz_fields.specs.declared.block.Block.{Block}
use Rattle.oz_names.specs.declared.code.Code.{Code}
use Rattle.oz_namespace.specs.declared.namespace.Namespace.{Namespace}
use Rattle.oz_requests.specs.declared.reply.Reply.{Reply}
use Rattle.oz_requests.specs.declared.reply.Reply.TheVariants as replies
use Rattle.oz_requests.specs.declared.request.Request.{Request}
use Rattle.oz_requests.specs.declared.request.Request.TheVariants.{AllocateBlock}
use Rattle.oz_requests.specs.Names.{volume_in}
use Rattle.oz_model.specs.declared.scope.Scope.{Scope}
use Rattle.oz_model.specs.Answers.{reply_from, Replies, Answers}
use Rattle.oz_model.specs.Grants.{IsPicked}
use Rattle.oz_model.specs.Refusals.{refusal}
use Rattle.oz_model.specs.Scope.{scope_of}
use Rattle.oz_legal.specs.manager_law.Words.{granted_or}

some_is : {A : Type 0} (a b : A) → Some a ≡ Some b → a ≡ b
some_is a b e = ap (λ o. unwrap_or o a) e

granted_alike : (o : Option Code) (given reply : Reply) (block other : Block) (pipeline on : ℕ) → given ≡ reply_from o (replies.Granted block pipeline)
    → IsPicked (Some (granted_or reply)) given → reply ≡ reply_from o (replies.Granted other on) → given ≡ reply
granted_alike None given reply block other pipeline on is picked also =
    let pair : (other, on) ≡ (block, pipeline) = sym (ap granted_or also) ∙ some_is (granted_or reply) (block, pipeline) (subst (IsPicked (Some (granted_or reply))) is picked) in
    is ∙ ap (λ (it : Block × ℕ). replies.Granted it.0 it.1) (sym pair) ∙ sym also
granted_alike (Some code) given reply block other pipeline on is picked also = is ∙ sym also

alike : (o : Option Code) (scope : Scope) (request : Request) (given reply : Reply) → Replies o scope request given → IsPicked (Some (granted_or reply)) given
    → Replies o scope request reply → given ≡ reply
alike o scope (AllocateBlock volume bucket key session exclude) given reply is picked also = granted_alike o given reply is.0 also.0 is.1 also.1 is.2 picked also.2
alike o scope request given reply is picked also = is ∙ sym also

pub alone : (namespace : Namespace) (request : Request) (given reply : Reply) → Answers namespace request given → IsPicked (Some (granted_or reply)) given
    → (given ≡ reply) ↔ Answers namespace request reply
unfolding Answers
alone namespace request given reply is picked =
    let scope = scope_of namespace (volume_in request) in (
      λ same. subst (λ (r : Reply). Replies (refusal scope request) scope request r) same is,
      λ also. alike (refusal scope request) scope request given reply is picked also,
    )
