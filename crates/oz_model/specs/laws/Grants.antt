-- No request but one grants a block.
use Rattle.std.proofs.Common.{◌≡◌, ◌≢◌, ◌∙◌, ℕ, [], Option, None, Some, refl, sym, ap, subst}
use Rattle.oz_fields.specs.declared.block.Block.{Block}
use Rattle.oz_names.specs.declared.code.Code.{Code}
use Rattle.oz_requests.specs.declared.reply.Reply.{Reply}
use Rattle.oz_requests.specs.declared.reply.Reply.TheVariants as replies
use Rattle.oz_requests.specs.declared.request.Family.TheVariants.{Allocation}
use Rattle.oz_requests.specs.declared.request.Request.{Request}
use Rattle.oz_requests.specs.declared.request.Request.TheVariants.{AllocateBlock}
use Rattle.oz_requests.specs.Families.{family_of}
use Rattle.oz_model.specs.declared.scope.Scope.{Scope}
use Rattle.oz_model.specs.Answers.{reply_from, Replies}
use Rattle.oz_model.specs.Buckets.{granted_by}
use Rattle.oz_model.specs.Grants.{IsPicked}

nothing : (o : Option Code) (given reply : Reply) → granted_by given ≡ [] → reply ≡ reply_from o given → granted_by reply ≡ []
nothing None given reply none is = ap granted_by is ∙ none
nothing (Some code) given reply none is = ap granted_by is

pub grants_none : (o : Option Code) (scope : Scope) (request : Request) (reply : Reply) → family_of request ≢ Allocation → Replies o scope request reply
    → granted_by reply ≡ []
grants_none o scope (AllocateBlock volume bucket key session exclude) reply apart is = absurd (apart refl)
grants_none o scope request reply apart is = nothing o _ reply refl is

pub nothing_picked : (pick : Option (Block × ℕ)) (reply : Reply) → granted_by reply ≡ [] → IsPicked pick reply
nothing_picked pick (replies.Granted block pipeline) none = absurd cc
nothing_picked pick reply none = tt

pub is_picked : (o : Option Code) (block : Block) (pipeline : ℕ) (reply : Reply) → reply ≡ reply_from o (replies.Granted block pipeline)
    → IsPicked (Some (block, pipeline)) reply
is_picked None block pipeline reply is = subst (IsPicked (Some (block, pipeline))) (sym is) refl
is_picked (Some code) block pipeline reply is = subst (IsPicked (Some (block, pipeline))) (sym is) tt
