-- What every request of the manager's own owes, once it is known what becomes of the rows.
use Rattle.std.proofs.Common.{◌≡◌, List, [], ℕ, None, refl, sym, subst}
use Rattle.oz_decision.specs.Meets.{AreInGrammar, MayGo, Meets, Stand}
use Rattle.oz_decision.specs.laws.OneRow.{nothing_changes}
use Rattle.oz_effects.specs.Batches.{IsBatchOf}
use Rattle.oz_model.specs.Answers.{Answers}
use Rattle.oz_model.specs.laws.Service.{service_leaves}
use Rattle.oz_namespace.specs.declared.namespace.Namespace.{Namespace}
use Rattle.oz_requests.specs.declared.reply.Reply.TheVariants as replies
use Rattle.oz_requests.specs.declared.request.Family.TheVariants.{Service}
use Rattle.oz_requests.specs.declared.request.Request.{Request}
use Rattle.oz_requests.specs.declared.request.Request.TheVariants.{MoveDeleted, Purge, PurgeSnapshot}
use Rattle.oz_requests.specs.Families.{family_of}
use Rattle.oz_rows.specs.declared.operation.Change.{Change}
use Rattle.oz_rows.specs.RowMaps.{Rows, after_changes}
use Rattle.oz_sound.specs.Kept.{KeepsBlocks}
use Rattle.oz_sound.specs.StandsFor.{StandsFor}

pub is_done : (namespace : Namespace) (request : Request) → family_of request ≡ Service → Answers namespace request replies.Done
unfolding Answers
is_done namespace (Purge volume named) family = refl
is_done namespace (MoveDeleted volume bucket number to) family = refl
is_done namespace (PurgeSnapshot volume bucket number) family = refl
is_done namespace request family = absurd cc

module _ (Sound : Rows → Type 0) (all : Rows) (namespace : Namespace) (request : Request) (family : family_of request ≡ Service) where
  pub meets : (bytes : List ℕ) (changes : List Change) → IsBatchOf all bytes changes → AreInGrammar (after_changes changes all) → StandsFor (after_changes changes all) namespace → Sound (after_changes changes all)
      → KeepsBlocks all (after_changes changes all) None (MayGo all request) → Meets Sound all namespace request replies.Done bytes changes
  meets bytes changes batch fit stands sound blocks = record {
    answers = is_done namespace request family;
    batch = batch;
    leads = subst (Stand Sound (after_changes changes all)) (sym (service_leaves namespace request replies.Done family)) (record { fit = fit; stands = stands; sound = sound });
    blocks = blocks;
    keeps = λ nothing. absurd (nothing.1 family);
  }

  -- where it is passed over nothing changes
  pub passed_over : Stand Sound all namespace → Meets Sound all namespace request replies.Done [] []
  passed_over stand = nothing_changes Sound all namespace request replies.Done stand (is_done namespace request family) (service_leaves namespace request replies.Done family)
