-- What a decision records, and what it promises of the rows.
use Rattle.std.proofs.Common.{◌≡◌, ◌≤◌, ◌↔◌, ℕ, Bool, true, false, List, [], ◌∷◌, length, Option, None, Some, Result, Ok, Err, IfOk, refl, sym, ◌∙◌, ap, subst, arith}
use mathlib.Core.Bool.{false≢true}
use Rattle.oz_names.specs.declared.code.Code.{Code}
use Rattle.oz_namespace.specs.declared.namespace.Namespace.{Namespace}
use Rattle.oz_model.specs.Answers.{reply_from, Answers}
use Rattle.oz_model.specs.Refusals.{refusal}
use Rattle.oz_model.specs.Scope.{scope_of}
use Rattle.oz_model.specs.laws.Scopes.{stays}
use Rattle.oz_requests.specs.declared.reply.Reply.{Reply}
use Rattle.oz_requests.specs.declared.reply.Reply.TheVariants as replies
use Rattle.oz_requests.specs.declared.request.Request.{Request}
use Rattle.oz_requests.specs.declared.request.Request.TheVariants.{CreateKey, ExpireOpen}
use Rattle.oz_requests.specs.Names.{name_fault}
use Rattle.oz_rows.specs.declared.entry.RowEntry.{RowEntry}
use Rattle.oz_rows.specs.declared.operation.Change.{Change}
use Rattle.oz_rows.specs.Operations.{batch_bytes}
use Rattle.oz_rows.specs.RowMaps.{Rows, AreRows, after_changes}
use Rattle.oz_sound.specs.Sound.{IsSound, IsSoundButRenames, RenamesAreSound}
use Rattle.oz_decision.specs.declared.decision.Decision.{Decision}
use Rattle.oz_decision.specs.Meets.{AreInGrammar, IsSafe, Stand, Meets}
use Rattle.oz_decision.specs.Replies.{IsReply}
use Rattle.oz_decision.specs.laws.OneRow.{has_bytes, nothing_is_safe, nothing_changes, stand_but_renames, meets_in_all}
use Rattle.oz_om_session.specs.om_open.Allowed.{MayRecord}
use Rattle.oz_om_session.specs.om_open.Opens.{IsOpening}
use Rattle.oz_om_session.specs.om_open.Records.{AreRecorded, operations_for}
use Rattle.oz_om_session.proofs.om_open_lemmas.Opening.{is_safe as create_is_safe, is_short as create_is_short}
use Rattle.oz_om_session.proofs.om_open_lemmas.Opened.{least, meets as create_meets, renames_stay as create_keeps_renames}
use Rattle.oz_om_session.proofs.om_open_lemmas.Ended.{is_safe as expire_is_safe, is_short as expire_is_short, meets as expire_meets, renames_stay as expire_keeps_renames}

abbrev pub bytes_for : Request → List Change → List ℕ
bytes_for request changes = batch_bytes (operations_for request changes)

-- a reply to each of the two requests is a code, or that of its own
is_created : Reply → Bool
is_created (replies.Code code) = true
is_created (replies.Session number) = true
is_created reply = false

is_ended : Reply → Bool
is_ended (replies.Code code) = true
is_ended (replies.Count count) = true
is_ended reply = false

created : (o : Option Code) (number : ℕ) → is_created (reply_from o (replies.Session number)) ≡ true
unfolding is_created
created None number = refl
created (Some code) number = refl

ended : (o : Option Code) (count : ℕ) → is_ended (reply_from o (replies.Count count)) ≡ true
unfolding is_ended
ended None count = refl
ended (Some code) count = refl

no_other_create : {P : Type 0} (namespace : Namespace) (v b k : List ℕ) (reply : Reply) → is_created reply ≡ false → Answers namespace (CreateKey v b k) reply → P
unfolding Answers
no_other_create namespace v b k reply e answers = absurd (false≢true (sym e ∙ ap is_created answers ∙ created (refusal (scope_of namespace v) (CreateKey v b k)) _))

no_other_end : {P : Type 0} (namespace : Namespace) (v b : List ℕ) (reply : Reply) → is_ended reply ≡ false → Answers namespace (ExpireOpen v b) reply → P
unfolding Answers
no_other_end namespace v b reply e answers = absurd (false≢true (sym e ∙ ap is_ended answers ∙ ended (refusal (scope_of namespace v) (ExpireOpen v b)) _))

-- where nothing changes there are no operations
no_operations : (request : Request) → operations_for request [] ≡ []
no_operations (ExpireOpen v b) = refl
no_operations request = refl

pub no_bytes : (request : Request) → [] ≡ bytes_for request []
no_bytes request = sym (ap batch_bytes (no_operations request))

-- changes have bytes
pub changes_have_bytes : (request : Request) (changes : List Change) → (bytes_for request changes ≡ []) ↔ (changes ≡ [])
changes_have_bytes (ExpireOpen v b) [] = (λ e. refl, λ e. refl)
changes_have_bytes (ExpireOpen v b) (change ∷ changes) = ((λ e. absurd (cc)), λ e. absurd (cc))
changes_have_bytes request changes = has_bytes changes

abbrev MeetsBy : (Rows → Type 0) → Rows → Namespace → Request → Reply → List Change → Type 0
MeetsBy Sound all namespace request reply changes = Meets Sound all namespace request reply (bytes_for request changes) changes

module _ (all : Rows) (request : Request) (named : name_fault request ≡ None) where
  -- a reply that records nothing
  abbrev Nothing : List Change → Type 0
  Nothing changes = changes ≡ []

  pub few_bytes : (reply : Reply) (changes : List Change) → IsOpening request → MayRecord all request reply → AreRecorded all request reply changes → length (bytes_for request changes) ≤ 12608
  few_bytes reply changes opening allowed recorded = by_request request reply named opening allowed recorded
    where
      none : (request : Request) → changes ≡ [] → length (bytes_for request changes) ≤ 12608
      none request e = subst (λ (c : List Change). length (bytes_for request c) ≤ 12608) (sym e) (subst (λ ops. length (batch_bytes ops) ≤ 12608) (sym (no_operations request)) (omega arith))

      by_request : (request : Request) (reply : Reply) → name_fault request ≡ None → IsOpening request → MayRecord all request reply → AreRecorded all request reply changes → length (bytes_for request changes) ≤ 12608
      by_request (CreateKey v b k) (replies.Session n) named opening allowed recorded =
          subst (λ (c : List Change). length (bytes_for (CreateKey v b k) c) ≤ 12608) (sym recorded) (create_is_short v b k n named (least all v b k n named allowed) allowed.few)
      by_request (CreateKey v b k) (replies.Count n) named opening allowed recorded = none (CreateKey v b k) recorded
      by_request (ExpireOpen v b) (replies.Session n) named opening allowed recorded = none (ExpireOpen v b) recorded
      by_request (ExpireOpen v b) reply named opening allowed recorded = let short = expire_is_short v b named changes in omega (arith, short)
      by_request (CreateKey v b k) reply named opening allowed recorded = none (CreateKey v b k) recorded
      by_request request reply named opening allowed recorded = absurd opening

  module _ (entries : List RowEntry) (are : AreRows entries all) where
    pub safe : (reply : Reply) (changes : List Change) → IsOpening request → MayRecord all request reply → AreRecorded all request reply changes → AreInGrammar all → IsSafe all (bytes_for request changes) changes
    safe reply changes opening allowed recorded fit = by_request request reply named opening allowed recorded
      where
        none : (request : Request) → changes ≡ [] → IsSafe all (bytes_for request changes) changes
        none request e = subst (λ (c : List Change). IsSafe all (bytes_for request c) c) (sym e) (subst (λ ops. IsSafe all (batch_bytes ops) []) (sym (no_operations request)) (nothing_is_safe all fit))

        by_request : (request : Request) (reply : Reply) → name_fault request ≡ None → IsOpening request → MayRecord all request reply → AreRecorded all request reply changes → IsSafe all (bytes_for request changes) changes
        by_request (CreateKey v b k) (replies.Session n) named opening allowed recorded =
            subst (λ (c : List Change). IsSafe all (bytes_for (CreateKey v b k) c) c) (sym recorded) (create_is_safe v b k n named (least all v b k n named allowed) allowed.few all allowed.bucket_there fit)
        by_request (CreateKey v b k) (replies.Count n) named opening allowed recorded = none (CreateKey v b k) recorded
        by_request (CreateKey v b k) reply named opening allowed recorded = none (CreateKey v b k) recorded
        by_request (ExpireOpen v b) (replies.Count n) named opening allowed recorded = expire_is_safe v b named all entries are changes recorded fit
        by_request (ExpireOpen v b) (replies.Session n) named opening allowed recorded = none (ExpireOpen v b) recorded
        by_request (ExpireOpen v b) reply named opening allowed recorded = none (ExpireOpen v b) recorded
        by_request request reply named opening allowed recorded = absurd opening

    module _ (namespace : Namespace) (stand : Stand IsSoundButRenames all namespace) where
      refused : (request : Request) (code : Code) (changes : List Change) → changes ≡ [] → Answers namespace request (replies.Code code) → MeetsBy IsSoundButRenames all namespace request (replies.Code code) changes
      refused request code changes e answers =
          subst (λ (c : List Change). MeetsBy IsSoundButRenames all namespace request (replies.Code code) c) (sym e)
          (subst (λ ops. Meets IsSoundButRenames all namespace request (replies.Code code) (batch_bytes ops) []) (sym (no_operations request))
          (nothing_changes IsSoundButRenames all namespace request (replies.Code code) stand answers (stays namespace request (replies.Code code) refl)))

      pub meets : (reply : Reply) (changes : List Change) → IsOpening request → MayRecord all request reply → AreRecorded all request reply changes → Answers namespace request reply → MeetsBy IsSoundButRenames all namespace request reply changes
      unfolding is_created is_ended
      meets reply changes opening allowed recorded answers = by_request request reply named opening allowed recorded answers
        where
          by_request : (request : Request) (reply : Reply) → name_fault request ≡ None → IsOpening request → MayRecord all request reply → AreRecorded all request reply changes → Answers namespace request reply → MeetsBy IsSoundButRenames all namespace request reply changes
          by_request (CreateKey v b k) (replies.Session n) named opening allowed recorded answers =
              subst (λ (c : List Change). MeetsBy IsSoundButRenames all namespace (CreateKey v b k) (replies.Session n) c) (sym recorded) (create_meets all v b k n named allowed namespace stand answers)
          by_request (CreateKey v b k) (replies.Code code) named opening allowed recorded answers = refused (CreateKey v b k) code changes recorded answers
          by_request (CreateKey v b k) reply named opening allowed recorded answers = no_other_create namespace v b k reply refl answers
          by_request (ExpireOpen v b) (replies.Count n) named opening allowed recorded answers = expire_meets v b named all entries are changes recorded allowed namespace stand n answers
          by_request (ExpireOpen v b) (replies.Code code) named opening allowed recorded answers = refused (ExpireOpen v b) code changes recorded answers
          by_request (ExpireOpen v b) reply named opening allowed recorded answers = no_other_end namespace v b reply refl answers
          by_request request reply named opening allowed recorded answers = absurd opening

      renames : (reply : Reply) (changes : List Change) → IsOpening request → MayRecord all request reply → AreRecorded all request reply changes → Answers namespace request reply → RenamesAreSound all → RenamesAreSound (after_changes changes all)
      unfolding is_created is_ended
      renames reply changes opening allowed recorded answers sound = by_request request reply named opening allowed recorded answers
        where
          none : changes ≡ [] → RenamesAreSound (after_changes changes all)
          none e = subst (λ (c : List Change). RenamesAreSound (after_changes c all)) (sym e) sound

          by_request : (request : Request) (reply : Reply) → name_fault request ≡ None → IsOpening request → MayRecord all request reply → AreRecorded all request reply changes → Answers namespace request reply → RenamesAreSound (after_changes changes all)
          by_request (CreateKey v b k) (replies.Session n) named opening allowed recorded answers =
              subst (λ (c : List Change). RenamesAreSound (after_changes c all)) (sym recorded) (create_keeps_renames all v b k n named allowed namespace stand answers sound)
          by_request (CreateKey v b k) (replies.Code code) named opening allowed recorded answers = none recorded
          by_request (CreateKey v b k) reply named opening allowed recorded answers = no_other_create namespace v b k reply refl answers
          by_request (ExpireOpen v b) (replies.Count n) named opening allowed recorded answers = expire_keeps_renames v b named all entries are changes recorded allowed namespace stand sound
          by_request (ExpireOpen v b) (replies.Code code) named opening allowed recorded answers = none recorded
          by_request (ExpireOpen v b) reply named opening allowed recorded answers = no_other_end namespace v b reply refl answers
          by_request request reply named opening allowed recorded answers = absurd opening

    pub meets_all : (namespace : Namespace) → Stand IsSound all namespace → (reply : Reply) (changes : List Change) → IsOpening request → MayRecord all request reply → AreRecorded all request reply changes → Answers namespace request reply → MeetsBy IsSound all namespace request reply changes
    meets_all namespace stand reply changes opening allowed recorded answers =
        let most = stand_but_renames all namespace stand in
        meets_in_all all namespace request reply (bytes_for request changes) changes (meets namespace most reply changes opening allowed recorded answers) (renames namespace most reply changes opening allowed recorded answers stand.sound.renames)

-- what is known of the decision on a request whose names were tested
pub record IsDecided (all : Rows) (request : Request) (decision : Decision) : Type 0 where
  pub reply : IsReply all request decision.reply
  pub allowed : MayRecord all request decision.reply
  pub changes : AreRecorded all request decision.reply decision.changes
  pub operations : decision.bytes ≡ bytes_for request decision.changes

pub decided : {E : Type 0} (all : Rows) (request : Request) (result : Result Decision E) (Q : Decision → Type 0) → IfOk result (λ d. IsReply all request d.reply) → IfOk result (λ d. MayRecord all request d.reply)
    → IfOk result (λ d. AreRecorded all request d.reply d.changes) → IfOk result (λ d. d.bytes ≡ bytes_for request d.changes) → ((d : Decision) → IsDecided all request d → Q d) → IfOk result Q
decided all request (Ok d) Q reply allowed changes operations then = then d (record { reply = reply; allowed = allowed; changes = changes; operations = operations })
decided all request (Err e) Q reply allowed changes operations then = tt

-- its bytes are those of its operations
pub as_recorded : (all : Rows) (request : Request) (d : Decision) → IsDecided all request d → (P : List ℕ → Type 0) → P (bytes_for request d.changes) → P d.bytes
as_recorded all request d is P p = subst P (sym is.operations) p
