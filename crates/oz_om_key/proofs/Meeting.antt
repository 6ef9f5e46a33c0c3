-- What a decision promises follows from its reply.
use Rattle.std.proofs.Common.{◌≡◌, ℕ, true, List, [], Option, None, Some, Result, Ok, Err, IfOk, refl, sym, subst}
use Rattle.oz_names.specs.declared.code.Code.{Code}
use Rattle.oz_namespace.specs.declared.namespace.Namespace.{Namespace}
use Rattle.oz_model.specs.Answers.{reply_from, after, Answers}
use Rattle.oz_model.specs.Buckets.{bucket_in, keys_in, pieces_in, listed}
use Rattle.oz_model.specs.Refusals.{refusal}
use Rattle.oz_model.specs.Scope.{scope_of}
use Rattle.oz_model.specs.laws.Scopes.{stays}
use Rattle.oz_requests.specs.declared.reply.Reply.{Reply}
use Rattle.oz_requests.specs.declared.reply.Reply.TheVariants as replies
use Rattle.oz_requests.specs.declared.request.Request.{Request}
use Rattle.oz_requests.specs.declared.request.Request.TheVariants.{LookupKey, ListKeys}
use Rattle.oz_rows.specs.declared.operation.Change.{Change}
use Rattle.oz_rows.specs.RowMaps.{Rows}
use Rattle.oz_decision.specs.declared.decision.Decision.{Decision}
use Rattle.oz_decision.specs.Meets.{Stand, Meets}
use Rattle.oz_decision.specs.Replies.{IsReply}
use Rattle.oz_decision.specs.laws.OneRow.{nothing_changes}
use Rattle.oz_om_key.specs.Requests.{is_on_keys}

-- a request is refused, or has its reply
pub by_refusal : (request : Request) (reply result : Reply) (Holds : Reply → Type 0) (o : Option Code) → reply ≡ reply_from o result → ((code : Code) → Holds (replies.Code code)) → Holds result → Holds reply
by_refusal request reply result Holds None is refused done = subst Holds (sym is) done
by_refusal request reply result Holds (Some code) is refused done = subst Holds (sym is) (refused code)

-- a look-up or a list leaves all as it was
left_as_it_was : (namespace : Namespace) (request : Request) (reply : Reply) → is_on_keys request ≡ true → Answers namespace request reply → after namespace request reply ≡ namespace
unfolding Answers
left_as_it_was namespace (LookupKey v b snapshot key) reply on answers =
    let request = LookupKey v b snapshot key in
    let scope = scope_of namespace v in
    by_refusal request reply (replies.Pieces (pieces_in (keys_in (bucket_in scope b) snapshot) key)) (λ r. after namespace request r ≡ namespace) (refusal scope request) answers
    (λ code. stays namespace request (replies.Code code) refl) (stays namespace request (replies.Pieces (pieces_in (keys_in (bucket_in scope b) snapshot) key)) refl)
left_as_it_was namespace (ListKeys v b snapshot prefix start count) reply on answers =
    let request = ListKeys v b snapshot prefix start count in
    let scope = scope_of namespace v in
    by_refusal request reply (replies.Names (listed (keys_in (bucket_in scope b) snapshot) prefix start count)) (λ r. after namespace request r ≡ namespace) (refusal scope request) answers
    (λ code. stays namespace request (replies.Code code) refl) (stays namespace request (replies.Names (listed (keys_in (bucket_in scope b) snapshot) prefix start count)) refl)
left_as_it_was namespace request reply on answers = absurd (cc)

pub meets : (Sound : Rows → Type 0) (all : Rows) (namespace : Namespace) (request : Request) (reply : Reply) → is_on_keys request ≡ true → Stand Sound all namespace → Answers namespace request reply → Meets Sound all namespace request reply [] []
meets Sound all namespace request reply on stand answers = nothing_changes Sound all namespace request reply stand answers (left_as_it_was namespace request reply on answers)

-- what is known of the decision on a request whose names were tested
pub record IsDecided (all : Rows) (request : Request) (decision : Decision) : Type 0 where
  pub reply : IsReply all request decision.reply
  pub changes : decision.changes ≡ []
  pub bytes : decision.bytes ≡ []

pub decided : {E : Type 0} (all : Rows) (request : Request) (result : Result Decision E) (Q : Decision → Type 0) → IfOk result (λ d. IsReply all request d.reply) → IfOk result (λ d. d.changes ≡ []) → IfOk result (λ d. d.bytes ≡ []) → ((d : Decision) → IsDecided all request d → Q d) → IfOk result Q
decided all request (Ok d) Q reply changes bytes then = then d (record { reply = reply; changes = changes; bytes = bytes })
decided all request (Err e) Q reply changes bytes then = tt

-- its bytes and changes are none
pub as_nothing : (all : Rows) (request : Request) (d : Decision) → IsDecided all request d → (P : List ℕ → List Change → Type 0) → P [] [] → P d.bytes d.changes
as_nothing all request d is P p = subst (λ (b : List ℕ). P b d.changes) (sym is.bytes) (subst (P []) (sym is.changes) p)
