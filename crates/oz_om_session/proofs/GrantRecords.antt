-- What a decision on a request for a block records, and where there is none.
use Rattle.std.proofs.Common.{◌≡◌, ◌≤◌, ◌↔◌, ℕ, Bool, true, false, List, length, Option, None, Some, Result, Ok, Err, IfOk, IfSome, IfNone, is_some, refl, sym, ◌∙◌, ap, subst, arith}
use mathlib.Core.Bool.{false≢true}
use Rattle.oz_fields.specs.declared.block.Block.{Block}
use Rattle.oz_names.specs.declared.code.Code.{Code}
use Rattle.oz_namespace.specs.declared.namespace.Namespace.{Namespace}
use Rattle.oz_model.specs.Answers.{reply_from, Answers}
use Rattle.oz_model.specs.Grants.{IsPicked}
use Rattle.oz_model.specs.Refusals.{refusal}
use Rattle.oz_model.specs.Scope.{scope_of}
use Rattle.oz_requests.specs.declared.reply.Reply.{Reply}
use Rattle.oz_requests.specs.declared.reply.Reply.TheVariants as replies
use Rattle.oz_requests.specs.declared.request.Request.{Request}
use Rattle.oz_requests.specs.declared.request.Request.TheVariants.{AllocateBlock}
use Rattle.oz_requests.specs.declared.request.Family.TheVariants.{Allocation}
use Rattle.oz_requests.specs.Families.{family_of}
use Rattle.oz_requests.specs.Names.{name_fault, volume_in}
use Rattle.oz_rows.specs.declared.operation.Change.{Change}
use Rattle.oz_rows.specs.Operations.{batch_bytes}
use Rattle.oz_rows.specs.RowMaps.{Rows}
use Rattle.oz_sound.specs.Sound.{IsSoundButRenames}
use Rattle.oz_decision.specs.declared.decision.Decision.{Decision}
use Rattle.oz_decision.specs.Drafts.{row_by_row}
use Rattle.oz_decision.specs.Meets.{AreInGrammar, IsSafe, Stand}
use Rattle.oz_decision.specs.Replies.{IsReply}
use Rattle.oz_decision.specs.laws.OneRow.{nothing_is_safe}
use Rattle.oz_om_session.specs.Picks.{IsPick}
use Rattle.oz_om_session.specs.Records.{recorded_grant}
use Rattle.oz_om_session.specs.Sessions.{MayRecordGrant}
use Rattle.oz_om_session.proofs.Granting.{is_safe, is_short}

-- a reply to a request for a block is a code or a block
unfoldable pub is_told : Reply → Bool
is_told (replies.Code code) = true
is_told (replies.Granted block pipeline) = true
is_told reply = false

told : (o : Option Code) (block : Block) (pipeline : ℕ) → is_told (reply_from o (replies.Granted block pipeline)) ≡ true
unfolding is_told
told None block pipeline = refl
told (Some code) block pipeline = refl

pub no_other : {P : Type 0} (namespace : Namespace) (request : Request) (reply : Reply) → family_of request ≡ Allocation → is_told reply ≡ false → Answers namespace request reply → P
unfolding Answers
no_other namespace (AllocateBlock v b k n x) reply family e answers = absurd (false≢true (sym e ∙ ap is_told answers.2 ∙ told (refusal (scope_of namespace v) (AllocateBlock v b k n x)) answers.0 answers.1))
no_other namespace request reply family e answers = absurd (cc)

abbrev pub bytes_for : Rows → Request → Reply → List ℕ
bytes_for all request reply = batch_bytes (row_by_row (recorded_grant all request reply))

module _ (all : Rows) (pick : Option (Block × ℕ)) (picks : IsPick pick) (request : Request) (family : family_of request ≡ Allocation) (named : name_fault request ≡ None) where
  pub safe : (reply : Reply) → MayRecordGrant all request reply → IsPicked pick reply → AreInGrammar all → IsSafe all (bytes_for all request reply) (recorded_grant all request reply)
  safe reply allowed picked fit = by_request request reply family named allowed picked
    where
      by_request : (request : Request) (reply : Reply) → family_of request ≡ Allocation → name_fault request ≡ None → MayRecordGrant all request reply → IsPicked pick reply → IsSafe all (bytes_for all request reply) (recorded_grant all request reply)
      by_request (AllocateBlock v b k n x) (replies.Granted block pipeline) family named allowed picked = is_safe all v b k n x named allowed block (subst IsPick picked picks) fit
      by_request request (replies.Granted block pipeline) family named allowed picked = absurd (cc)
      by_request request reply family named allowed picked = nothing_is_safe all fit

  pub few_bytes : (reply : Reply) → MayRecordGrant all request reply → IsPicked pick reply → length (bytes_for all request reply) ≤ 6304
  few_bytes reply allowed picked = by_request request reply family named allowed picked
    where
      by_request : (request : Request) (reply : Reply) → family_of request ≡ Allocation → name_fault request ≡ None → MayRecordGrant all request reply → IsPicked pick reply → length (bytes_for all request reply) ≤ 6304
      by_request (AllocateBlock v b k n x) (replies.Granted block pipeline) family named allowed picked = is_short all v b k n x named allowed block (subst IsPick picked picks)
      by_request request (replies.Granted block pipeline) family named allowed picked = absurd (cc)
      by_request request reply family named allowed picked = omega arith

  -- where nothing is refused and none was picked there is no reply
  pub no_reply : {P : Type 0} (namespace : Namespace) (reply : Reply) → Answers namespace request reply → IsPicked pick reply → refusal (scope_of namespace (volume_in request)) request ≡ None → pick ≡ None → P
  unfolding Answers is_told
  no_reply namespace reply answers picked unrefused none = by_request request reply family answers picked unrefused
    where
      some_apart : {A : Type 0} {a : A} → None ≡ Some a → ⊥
      some_apart e = false≢true (ap is_some e)

      by_request : {P : Type 0} (request : Request) (reply : Reply) → family_of request ≡ Allocation → Answers namespace request reply → IsPicked pick reply → refusal (scope_of namespace (volume_in request)) request ≡ None → P
      by_request (AllocateBlock v b k n x) (replies.Code code) family answers picked unrefused =
          let e : replies.Code code ≡ replies.Granted answers.0 answers.1 = answers.2 ∙ ap (λ o. reply_from o (replies.Granted answers.0 answers.1)) unrefused in absurd (cc)
      by_request request (replies.Granted block pipeline) family answers picked unrefused = absurd (some_apart (sym none ∙ picked))
      by_request (AllocateBlock v b k n x) reply family answers picked unrefused = no_other namespace (AllocateBlock v b k n x) reply family refl answers
      by_request request reply family answers picked unrefused = absurd (cc)

-- what is known of the decision on a request whose names were tested
pub record IsDecided (all : Rows) (pick : Option (Block × ℕ)) (request : Request) (decision : Decision) : Type 0 where
  pub reply : IsReply all request decision.reply
  pub allowed : MayRecordGrant all request decision.reply
  pub picked : IsPicked pick decision.reply
  pub changes : decision.changes ≡ recorded_grant all request decision.reply
  pub operations : decision.bytes ≡ batch_bytes (row_by_row decision.changes)

pub decided : {E : Type 0} (all : Rows) (pick : Option (Block × ℕ)) (request : Request) (result : Result (Option Decision) E) (Q : Decision → Type 0) → IfOk result (λ o. IfSome o (λ d. IsReply all request d.reply)) → IfOk result (λ o. IfSome o (λ d. MayRecordGrant all request d.reply))
    → IfOk result (λ o. IfSome o (λ d. IsPicked pick d.reply)) → IfOk result (λ o. IfSome o (λ d. d.changes ≡ recorded_grant all request d.reply)) → IfOk result (λ o. IfSome o (λ d. d.bytes ≡ batch_bytes (row_by_row d.changes))) → ((d : Decision) → IsDecided all pick request d → Q d) → IfOk result (λ o. IfSome o Q)
decided all pick request (Ok (Some d)) Q reply allowed picked changes operations then = then d (record { reply = reply; allowed = allowed; picked = picked; changes = changes; operations = operations })
decided all pick request (Ok None) Q reply allowed picked changes operations then = tt
decided all pick request (Err e) Q reply allowed picked changes operations then = tt

-- its bytes and changes are those that are recorded
pub as_recorded : (all : Rows) (pick : Option (Block × ℕ)) (request : Request) (d : Decision) → IsDecided all pick request d → (P : List ℕ → List Change → Type 0) → P (bytes_for all request d.reply) (recorded_grant all request d.reply) → P d.bytes d.changes
as_recorded all pick request d is P p = subst (λ (b : List ℕ). P b d.changes) (sym is.operations) (subst (λ (c : List Change). P (batch_bytes (row_by_row c)) c) (sym is.changes) p)

abbrev Unrefused : Rows → Request → Type 0
Unrefused all request = (namespace : Namespace) → Stand IsSoundButRenames all namespace → refusal (scope_of namespace (volume_in request)) request ≡ None

-- exactly where no code applies and there is no pick there is no decision
pub none_decided : {E : Type 0} (all : Rows) (pick : Option (Block × ℕ)) (picks : IsPick pick) (request : Request) (family : family_of request ≡ Allocation) (named : name_fault request ≡ None) (result : Result (Option Decision) E) → IfOk result (λ o. IfSome o (λ d. IsReply all request d.reply)) → IfOk result (λ o. IfSome o (λ d. IsPicked pick d.reply))
    → IfOk result (λ o. IfNone o ((pick ≡ None) × Unrefused all request)) → IfOk result (λ o. (namespace : Namespace) → Stand IsSoundButRenames all namespace → (o ≡ None) ↔ ((refusal (scope_of namespace (volume_in request)) request ≡ None) × (pick ≡ None)))
unfolding Answers
none_decided all pick picks request family named (Ok (Some d)) reply picked none = λ namespace stand. ((λ e. absurd (false≢true (sym (ap is_some e)))), λ both. no_reply all pick picks request family named namespace d.reply (reply namespace stand) picked both.0 both.1)
none_decided all pick picks request family named (Ok None) reply picked none = λ namespace stand. ((λ e. (none.1 namespace stand, none.0)), λ both. refl)
none_decided all pick picks request family named (Err e) reply picked none = tt
