-- When a stripe has no block left for a session.
use Rattle.std.specs.Prelude.{◌≡◌, ℕ, List, Some}
use Rattle.oz_core.specs.declared.event.Event.{Event}
use Rattle.oz_core.specs.declared.opening.Opening.{Opening}
use Rattle.oz_core.specs.Asks.{pending}
use Rattle.oz_core.specs.Grants.{IsSpent}
use Rattle.oz_core.specs.Manager.{namespace_of}
use Rattle.oz_fields.specs.declared.block.Block.{Block}
use Rattle.oz_model.specs.Answers.{Answers}
use Rattle.oz_names.specs.Names.{stripe_of}
use Rattle.oz_requests.specs.declared.reply.Reply.TheVariants.{Granted}
use Rattle.oz_requests.specs.declared.request.AskId.{AskId}
use Rattle.oz_requests.specs.declared.request.Exclude.{Exclude}
use Rattle.oz_requests.specs.declared.request.Request.TheVariants.{AllocateBlock}

-- At the end of a story a session wants a block, one thread would grant it any, and each block that its stripe was
-- granted is used, or excluded.
pub record IsPoolEmpty (opening : Opening) (story : List Event) (id : AskId) (stripe : ℕ) : Type 0 where
  pub volume : List ℕ
  pub bucket : List ℕ
  pub key : List ℕ
  pub session : ℕ
  pub exclude : Exclude
  pub asked : pending id story ≡ Some (AllocateBlock volume bucket key session exclude)
  pub its_stripe : stripe ≡ stripe_of volume
  pub no_code : (block : Block) (pipeline : ℕ)
      → Answers (namespace_of opening story) (AllocateBlock volume bucket key session exclude) (Granted block pipeline)
  pub spent : IsSpent opening story stripe exclude
