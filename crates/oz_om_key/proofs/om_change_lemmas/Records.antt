-- What a decision on a change records.
use Rattle.std.proofs.Common.{◌≡◌, ℕ, Bool, true, false, List, Option, None, Some, Result, Ok, Err, IfOk, refl, sym, ◌∙◌, ap, subst, arith}
use mathlib.Core.Bool.{false≢true}
use Rattle.oz_names.specs.declared.code.Code.{Code}
use Rattle.oz_namespace.specs.declared.namespace.Namespace.{Namespace}
use Rattle.oz_model.specs.Answers.{reply_from, Answers}
use Rattle.oz_model.specs.Refusals.{refusal}
use Rattle.oz_model.specs.Scope.{scope_of}
use Rattle.oz_requests.specs.declared.reply.Reply.{Reply}
use Rattle.oz_requests.specs.declared.reply.Reply.TheVariants as replies
use Rattle.oz_requests.specs.declared.request.Request.{Request}
use Rattle.oz_requests.specs.declared.request.Request.TheVariants.{DeleteKey, RenameKey}
use Rattle.oz_requests.specs.Names.{name_fault}
use Rattle.oz_rows.specs.declared.operation.Change.{Change}
use Rattle.oz_rows.specs.Operations.{batch_bytes}
use Rattle.oz_rows.specs.RowMaps.{Rows}
use Rattle.oz_decision.specs.declared.decision.Decision.{Decision}
use Rattle.oz_decision.specs.Drafts.{row_by_row}
use Rattle.oz_decision.specs.Replies.{IsReply}
use Rattle.oz_om_key.specs.om_change.Changes.{IsChange}
use Rattle.oz_om_key.specs.om_change.Keys.{MayRecordChange}
use Rattle.oz_om_key.specs.om_change.Records.{AreRecorded}
use Rattle.oz_om_key.proofs.om_change_lemmas.Batches.{Follows, bytes_of, deletion_follows, nothing_follows}
use Rattle.oz_om_key.proofs.om_change_lemmas.Renamed.{renaming_follows}

-- a reply to a change is a code or that it is done
unfoldable pub is_told : Reply → Bool
is_told (replies.Code code) = true
is_told replies.Done = true
is_told reply = false

told : (o : Option Code) → is_told (reply_from o replies.Done) ≡ true
unfolding is_told
told None = refl
told (Some code) = refl

pub no_other : {P : Type 0} (namespace : Namespace) (request : Request) (reply : Reply) → IsChange request → is_told reply ≡ false → Answers namespace request reply → P
unfolding Answers
no_other namespace (DeleteKey v b k) reply change e answers = absurd (false≢true (sym e ∙ ap is_told answers ∙ told (refusal (scope_of namespace v) (DeleteKey v b k))))
no_other namespace (RenameKey v b k to) reply change e answers = absurd (false≢true (sym e ∙ ap is_told answers ∙ told (refusal (scope_of namespace v) (RenameKey v b k to))))
no_other namespace request reply change e answers = absurd change

-- what is recorded is a batch that may follow the rows
pub follows : (all : Rows) (request : Request) (reply : Reply) (changes : List Change) → IsChange request → name_fault request ≡ None → MayRecordChange all request reply → AreRecorded all request reply changes → Follows all changes 1626432
follows all (DeleteKey v b k) replies.Done changes change named allowed recorded =
    let whole = deletion_follows all v b k named allowed in
    subst (λ (c : List Change). Follows all c 1626432) (sym recorded) (record { safe = whole.safe; short = let short = whole.short in omega (arith, short) })
follows all (RenameKey v b k to) replies.Done changes change named allowed (numbers, are, recorded) =
    subst (λ (c : List Change). Follows all c 1626432) (sym recorded) (renaming_follows all v b k to named allowed numbers)
follows all request replies.Done changes change named allowed recorded = absurd change
follows all request reply changes change named allowed recorded = subst (λ (c : List Change). Follows all c 1626432) (sym recorded) (nothing_follows all 1626432)

-- what is known of the decision on a request whose names were tested
pub record IsDecided (all : Rows) (request : Request) (decision : Decision) : Type 0 where
  pub reply : IsReply all request decision.reply
  pub allowed : MayRecordChange all request decision.reply
  pub changes : AreRecorded all request decision.reply decision.changes
  pub operations : decision.bytes ≡ batch_bytes (row_by_row decision.changes)

pub decided : {E : Type 0} (all : Rows) (request : Request) (result : Result Decision E) (Q : Decision → Type 0) → IfOk result (λ d. IsReply all request d.reply) → IfOk result (λ d. MayRecordChange all request d.reply)
    → IfOk result (λ d. AreRecorded all request d.reply d.changes) → IfOk result (λ d. d.bytes ≡ batch_bytes (row_by_row d.changes)) → ((d : Decision) → IsDecided all request d → Q d) → IfOk result Q
decided all request (Ok d) Q reply allowed changes operations then = then d (record { reply = reply; allowed = allowed; changes = changes; operations = operations })
decided all request (Err e) Q reply allowed changes operations then = tt

-- its bytes are those of its changes
pub as_recorded : (all : Rows) (request : Request) (d : Decision) → IsDecided all request d → (P : List ℕ → List Change → Type 0) → P (bytes_of d.changes) d.changes → P d.bytes d.changes
as_recorded all request d is P p = subst (λ (b : List ℕ). P b d.changes) (sym is.operations) p
