-- What a decision on a request for a block promises follows from its reply, and from what the rows are.
use Rattle.std.proofs.Common.{◌≡◌, ℕ, Option, None, refl, subst}
use Rattle.oz_fields.specs.declared.block.Block.{Block}
use Rattle.oz_namespace.specs.declared.namespace.Namespace.{Namespace}
use Rattle.oz_model.specs.Answers.{Answers}
use Rattle.oz_model.specs.Grants.{IsPicked}
use Rattle.oz_model.specs.laws.Scopes.{stays}
use Rattle.oz_requests.specs.declared.reply.Reply.{Reply}
use Rattle.oz_requests.specs.declared.reply.Reply.TheVariants as replies
use Rattle.oz_requests.specs.declared.request.Request.{Request}
use Rattle.oz_requests.specs.declared.request.Request.TheVariants.{AllocateBlock}
use Rattle.oz_requests.specs.declared.request.Family.TheVariants.{Allocation}
use Rattle.oz_requests.specs.Families.{family_of}
use Rattle.oz_requests.specs.Names.{name_fault}
use Rattle.oz_rows.specs.RowMaps.{Rows, after_changes}
use Rattle.oz_sound.specs.Sound.{IsSound, IsSoundButRenames, RenamesAreSound}
use Rattle.oz_decision.specs.Meets.{Stand, Meets}
use Rattle.oz_decision.specs.laws.OneRow.{nothing_changes, stand_but_renames, meets_in_all}
use Rattle.oz_om_session.specs.Picks.{IsPick, IsNew}
use Rattle.oz_om_session.specs.Records.{recorded_grant}
use Rattle.oz_om_session.specs.Sessions.{MayRecordGrant}
use Rattle.oz_om_session.proofs.Granted.{meets as grant_meets, renames_stay as grant_keeps_renames}
use Rattle.oz_om_session.proofs.GrantRecords.{is_told, no_other, bytes_for}

module _ (all : Rows) (pick : Option (Block × ℕ)) (picks : IsPick pick) (request : Request) (family : family_of request ≡ Allocation) (named : name_fault request ≡ None) where
  module _ (fresh : IsNew all pick) (namespace : Namespace) where
    pub meets : (reply : Reply) → MayRecordGrant all request reply → IsPicked pick reply → Stand IsSoundButRenames all namespace → Answers namespace request reply → Meets IsSoundButRenames all namespace request reply (bytes_for all request reply) (recorded_grant all request reply)
    unfolding is_told
    meets reply allowed picked stand answers = by_request request reply family named allowed picked answers
      where
        by_request : (request : Request) (reply : Reply) → family_of request ≡ Allocation → name_fault request ≡ None → MayRecordGrant all request reply → IsPicked pick reply → Answers namespace request reply → Meets IsSoundButRenames all namespace request reply (bytes_for all request reply) (recorded_grant all request reply)
        by_request request (replies.Code code) family named allowed picked answers = nothing_changes IsSoundButRenames all namespace request (replies.Code code) stand answers (stays namespace request (replies.Code code) refl)
        by_request (AllocateBlock v b k n x) (replies.Granted block pipeline) family named allowed picked answers =
            grant_meets all v b k n x named allowed block (subst IsPick picked picks) namespace stand (subst (IsNew all) picked fresh) pipeline answers
        by_request request (replies.Granted block pipeline) family named allowed picked answers = absurd (cc)
        by_request request reply family named allowed picked answers = no_other namespace request reply family refl answers

    renames : (reply : Reply) → MayRecordGrant all request reply → IsPicked pick reply → Stand IsSoundButRenames all namespace → RenamesAreSound all → RenamesAreSound (after_changes (recorded_grant all request reply) all)
    renames reply allowed picked stand sound = by_request request reply family named allowed picked
      where
        by_request : (request : Request) (reply : Reply) → family_of request ≡ Allocation → name_fault request ≡ None → MayRecordGrant all request reply → IsPicked pick reply → RenamesAreSound (after_changes (recorded_grant all request reply) all)
        by_request (AllocateBlock v b k n x) (replies.Granted block pipeline) family named allowed picked =
            grant_keeps_renames all v b k n x named allowed block (subst IsPick picked picks) namespace stand (subst (IsNew all) picked fresh) sound
        by_request request (replies.Granted block pipeline) family named allowed picked = absurd (cc)
        by_request request reply family named allowed picked = sound

    pub meets_all : (reply : Reply) → MayRecordGrant all request reply → IsPicked pick reply → Stand IsSound all namespace → Answers namespace request reply → Meets IsSound all namespace request reply (bytes_for all request reply) (recorded_grant all request reply)
    meets_all reply allowed picked stand answers =
        let most = stand_but_renames all namespace stand in
        meets_in_all all namespace request reply (bytes_for all request reply) (recorded_grant all request reply) (meets reply allowed picked most answers) (renames reply allowed picked most stand.sound.renames)
