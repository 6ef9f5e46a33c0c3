-- What the rows of a bucket say of its keys is what the namespace says, for which they stand.
use Rattle.std.proofs.Common.{◌≡◌, ℕ, Bool, true, false, not, List, [], ◌∷◌, Option, None, Some, is_some, cond, refl, sym, ◌∙◌, ap}
use Rattle.std.specs.FinMap.{get}
use Rattle.oz_names.specs.declared.code.Code.{Code}
use Rattle.oz_names.specs.declared.code.Code.TheVariants.{KeyNotFound, KeyAlreadyExists}
use Rattle.oz_namespace.specs.declared.namespace.Bucket.{Bucket}
use Rattle.oz_namespace.specs.declared.namespace.Namespace.{Namespace}
use Rattle.oz_namespace.specs.Namespace.{bucket_of}
use Rattle.oz_model.specs.Answers.{AnswersIn, reply_from}
use Rattle.oz_model.specs.Buckets.{bucket_at, has_key}
use Rattle.oz_model.specs.Refusals.{Refusal, where_so, first_of, no_volume, no_bucket, no_key, refusal}
use Rattle.oz_model.specs.Scope.{scope_of}
use Rattle.oz_model.specs.declared.scope.Scope.{Scope}
use Rattle.oz_model.specs.laws.Order.{refused_so}
use Rattle.oz_requests.specs.declared.reply.Reply.TheVariants as replies
use Rattle.oz_requests.specs.declared.request.Request.{Request}
use Rattle.oz_requests.specs.declared.request.Request.TheVariants.{DeleteKey, RenameKey}
use Rattle.oz_requests.specs.Names.{name_fault}
use Rattle.oz_rows.specs.declared.key.RowKey.TheVariants as keys
use Rattle.oz_rows.specs.declared.row.Row.{Row}
use Rattle.oz_rows.specs.RowMaps.{Rows}
use Rattle.oz_sound.specs.Sound.{IsSoundButRenames}
use Rattle.oz_sound.specs.StandsFor.{pieces_in}
use Rattle.oz_decision.specs.Meets.{Stand}
use Rattle.oz_decision.specs.laws.Lookups.{has_pieces}
use Rattle.oz_decision.specs.laws.Sessions.{own_refusals, first_found, none_found}
use Rattle.oz_decision.specs.laws.Shown.{pieces_at}
use Rattle.oz_om_key.specs.om_change.Keys.{is_key}
use Rattle.oz_om_key.proofs.om_change_lemmas.KeyRows.{row_is_key}

turned : (t : Bool) (code : Code) → cond t None (Some code) ≡ cond (not t) (Some code) None
turned true code = refl
turned false code = refl

-- what is refused has its code, and what isn't is done
pub refused_by : (scope : Scope) (request : Request) (code : Option Code) (c : Code) → code ≡ Some c → code ≡ refusal scope request → AnswersIn scope request (replies.Code c)
refused_by scope request code c is e = refused_so scope request c (sym e ∙ is)

pub renamed_by : (scope : Scope) (v b k to : List ℕ) (code : Option Code) → code ≡ None → code ≡ refusal scope (RenameKey v b k to) → AnswersIn scope (RenameKey v b k to) replies.Done
renamed_by scope v b k to code is e = sym (ap (λ o. reply_from o replies.Done) (sym e ∙ is))

module _ (all : Rows) (v b : List ℕ) (namespace : Namespace) (stand : Stand IsSoundButRenames all namespace) where
  abbrev bucket : Bucket
  bucket = bucket_at namespace v b

  abbrev scope : Scope
  scope = scope_of namespace v

  pub pieces_are : (q : List ℕ) → get bucket.keys q ≡ pieces_in (all (keys.Key v b q))
  pieces_are q = sym (pieces_at (bucket_of namespace v b) q) ∙ stand.stands.pieces v b q

  -- whether a key is there, its row says
  pub row_tells : (q : List ℕ) → has_key bucket.keys q ≡ is_some (all (keys.Key v b q))
  row_tells q = by_row (all (keys.Key v b q)) refl
    where
      by_row : (o : Option Row) → all (keys.Key v b q) ≡ o → has_key bucket.keys q ≡ is_some (all (keys.Key v b q))
      by_row None e = ap is_some (pieces_are q ∙ ap pieces_in e) ∙ sym (ap is_some e)
      by_row (Some row) e = ap is_some (pieces_are q ∙ ap pieces_in e) ∙ has_pieces v b q row (stand.fit (keys.Key v b q) row e).1 ∙ sym (ap is_some e)

  test_tells : (q : List ℕ) → has_key bucket.keys q ≡ is_key (all (keys.Key v b q))
  test_tells q = by_row (all (keys.Key v b q)) refl
    where
      by_row : (o : Option Row) → all (keys.Key v b q) ≡ o → has_key bucket.keys q ≡ is_key (all (keys.Key v b q))
      by_row None e = row_tells q ∙ ap is_some e ∙ sym (ap is_key e)
      by_row (Some row) e = row_tells q ∙ ap is_some e ∙ sym (ap is_key e ∙ row_is_key v b q row (stand.fit (keys.Key v b q) row e))

  abbrev not_there : List ℕ → List Refusal
  not_there k = no_volume scope ∷ no_bucket scope b ∷ no_key bucket.keys k ∷ []

  -- in a bucket that is there, the key is missing or isn't
  pub key_missing : (k : List ℕ) (code : Option Code) (t : Bool) → code ≡ None → code ≡ first_of (no_volume scope ∷ no_bucket scope b ∷ []) → t ≡ is_key (all (keys.Key v b k)) → cond t None (Some KeyNotFound) ≡ first_of (not_there k)
  key_missing k code t none e is =
      turned t KeyNotFound ∙ ap (λ (u : Bool). cond (not u) (Some KeyNotFound) None) (is ∙ sym (test_tells k))
      ∙ none_found (no_volume scope ∷ no_bucket scope b ∷ []) (no_key bucket.keys k ∷ []) code none e

  -- a key that isn't there isn't deleted, and any other is
  pub not_deleted : (k : List ℕ) → name_fault (DeleteKey v b k) ≡ None → (code : Option Code) (c : Code) → code ≡ Some c → code ≡ first_of (not_there k) → AnswersIn scope (DeleteKey v b k) (replies.Code c)
  not_deleted k named code c is e = refused_so scope (DeleteKey v b k) c (own_refusals scope (DeleteKey v b k) named ∙ sym e ∙ is)

  pub deleted : (k : List ℕ) → name_fault (DeleteKey v b k) ≡ None → (code : Option Code) → code ≡ None → code ≡ first_of (not_there k) → AnswersIn scope (DeleteKey v b k) replies.Done
  deleted k named code is e = sym (ap (λ o. reply_from o replies.Done) (own_refusals scope (DeleteKey v b k) named ∙ sym e ∙ is))

  module _ (k to : List ℕ) (named : name_fault (RenameKey v b k to) ≡ None) where
    abbrev request : Request
    request = RenameKey v b k to

    abbrev taken : Bool → Refusal
    taken t = where_so t KeyAlreadyExists

    pub rename_missing : (code : Option Code) (c : Code) → code ≡ Some c → code ≡ first_of (not_there k) → Some c ≡ refusal scope request
    rename_missing code c is e = first_found (not_there k) (taken (has_key bucket.keys to) ∷ []) code c is e ∙ sym (own_refusals scope request named)

    pub rename_taken : (code : Option Code) (t : Bool) → code ≡ None → code ≡ first_of (not_there k) → is_some (all (keys.Key v b to)) ≡ t → cond t (Some KeyAlreadyExists) None ≡ refusal scope request
    rename_taken code t is e there =
        ap (λ (u : Bool). cond u (Some KeyAlreadyExists) None) (sym (row_tells to ∙ there))
        ∙ none_found (not_there k) (taken (has_key bucket.keys to) ∷ []) code is e
        ∙ sym (own_refusals scope request named)
