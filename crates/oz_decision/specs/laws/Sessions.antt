-- What the rows of a bucket say of its sessions is what the namespace says, for which they stand.
use Rattle.std.proofs.Common.{◌≡◌, ◌↔◌, ℕ, Bool, true, false, not, List, [], ◌∷◌, ◌++◌, Option, None, Some, is_some, cond, refl, sym, ◌∙◌, ap, subst}
use mathlib.Core.Bool.{false≢true}
use Rattle.std.proofs.lemmas.Cmp.{nat_list_eq_equiv}
use Rattle.std.specs.Cmp.Lexicographic.{same_text}
use Rattle.std.specs.FinMap.{get, get-empty}
use Rattle.std.specs.Option.{option_and_then}
use Rattle.std.specs.Ordering.{nat_cmp}
use Rattle.oz_names.specs.declared.code.Code.{Code}
use Rattle.oz_names.specs.declared.code.Code.TheVariants.{KeyNotFound}
use Rattle.oz_namespace.specs.declared.namespace.Bucket.{Bucket}
use Rattle.oz_namespace.specs.declared.namespace.Namespace.{Namespace}
use Rattle.oz_namespace.specs.declared.namespace.Session.{Session}
use Rattle.oz_namespace.specs.Namespace.{bucket_of}
use Rattle.oz_model.specs.Buckets.{bucket_at, bucket_or_new, is_same_name, is_on, has_session, session_blocks, blocks_or_none}
use Rattle.oz_model.specs.Refusals.{Refusal, first_of, no_volume, no_bucket, no_session, missing, codes, refusal}
use Rattle.oz_model.specs.Scope.{scope_of}
use Rattle.oz_model.specs.declared.scope.Scope.{Scope}
use Rattle.oz_model.specs.laws.Order.{or_then, one_then_other, in_order}
use Rattle.oz_requests.specs.declared.request.Request.{Request}
use Rattle.oz_requests.specs.Names.{name_fault}
use Rattle.oz_rows.specs.declared.key.RowKey.TheVariants as keys
use Rattle.oz_rows.specs.declared.row.Row.{Row}
use Rattle.oz_rows.specs.declared.row.Row.TheVariants as rows
use Rattle.oz_rows.specs.RowMaps.{Rows}
use Rattle.oz_sound.specs.Sound.{IsSoundButRenames}
use Rattle.oz_decision.specs.Meets.{Stand}
use Rattle.oz_decision.specs.Sessions.{blocks_at, is_open}
use Rattle.oz_decision.specs.laws.SessionRows.{open_row, row_is_open}

pub name_itself : (name : List ℕ) → is_same_name name name ≡ true
name_itself name = nat_list_eq_equiv.refl name

pub one_name : (a b : List ℕ) → is_same_name a b ≡ true → a ≡ b
one_name a b e = same_text a b (sym e)

-- where the names are good, what isn't there is tested, and then the request's own codes
pub own_refusals : (scope : Scope) (request : Request) → name_fault request ≡ None
    → refusal scope request ≡ first_of (missing scope request ++ codes scope request)
own_refusals scope request named = in_order scope request
    ∙ ap (λ fault. or_then fault (or_then (first_of (missing scope request)) (first_of (codes scope request)))) named
    ∙ sym (one_then_other (missing scope request) (codes scope request))

pub first_found : (some others : List Refusal) (code : Option Code) (c : Code) → code ≡ Some c → code ≡ first_of some → Some c ≡ first_of (some ++ others)
first_found some others code c is e = ap (λ o. or_then o (first_of others)) (sym is ∙ e) ∙ sym (one_then_other some others)

pub none_found : (some others : List Refusal) (code : Option Code) → code ≡ None → code ≡ first_of some → first_of others ≡ first_of (some ++ others)
none_found some others code is e = ap (λ o. or_then o (first_of others)) (sym is ∙ e) ∙ sym (one_then_other some others)

pub sessions_in : (o : Option Bucket) (n : ℕ) → option_and_then (λ (b : Bucket). get b.sessions n) o ≡ get (bucket_or_new o).sessions n
sessions_in None n = sym (get-empty nat_cmp n)
sessions_in (Some bucket) n = refl

module _ (all : Rows) (v b : List ℕ) (namespace : Namespace) (stand : Stand IsSoundButRenames all namespace) where
  abbrev bucket : Bucket
  bucket = bucket_at namespace v b

  pub session_stands : (n : ℕ) (s : Session) → (get bucket.sessions n ≡ Some s) ↔ (all (keys.Open v b s.key n) ≡ Some (rows.Open s.blocks))
  session_stands n s =
      let both = stand.stands.sessions v b n s in
      let same = sessions_in (bucket_of namespace v b) n in
      (λ e. both.0 (same ∙ e), λ e. sym same ∙ both.1 e)

  -- a session's row shows the session
  pub session_is : (k : List ℕ) (n : ℕ) → is_open n (all (keys.Open v b k n)) ≡ true
      → get bucket.sessions n ≡ Some (record { key = k; blocks = blocks_at (all (keys.Open v b k n)) })
  session_is k n e = (session_stands n (record { key = k; blocks = blocks_at (all (keys.Open v b k n)) })).1 (open_row n _ e).is

  pub blocks_are : (k : List ℕ) (n : ℕ) → is_open n (all (keys.Open v b k n)) ≡ true → session_blocks bucket n ≡ blocks_at (all (keys.Open v b k n))
  blocks_are k n e = ap blocks_or_none (session_is k n e)

  on_itself : (k : List ℕ) (n : ℕ) → is_open n (all (keys.Open v b k n)) ≡ true → has_session bucket k n ≡ true
  on_itself k n e = ap (is_on k) (session_is k n e) ∙ name_itself k

  none_on : (k : List ℕ) (n : ℕ) → all (keys.Open v b k n) ≡ None → (o : Option Session) → get bucket.sessions n ≡ o → is_on k o ≡ false
  none_on k n none None e = refl
  none_on k n none (Some s) e = by_test (is_same_name s.key k) refl
    where
      by_test : (t : Bool) → is_same_name s.key k ≡ t → t ≡ false
      by_test false same = refl
      by_test true same =
          let there = (session_stands n s).0 e in
          let here : all (keys.Open v b k n) ≡ Some (rows.Open s.blocks) =
          subst (λ q. all (keys.Open v b q n) ≡ Some (rows.Open s.blocks)) (one_name s.key k same) there in
          absurd (false≢true (sym (ap is_some none) ∙ ap is_some here))

  -- whether the session is there, its row says
  pub row_tells : (k : List ℕ) (n : ℕ) → has_session bucket k n ≡ is_open n (all (keys.Open v b k n))
  row_tells k n = by_row (all (keys.Open v b k n)) refl
    where
      by_row : (o : Option Row) → all (keys.Open v b k n) ≡ o → has_session bucket k n ≡ is_open n (all (keys.Open v b k n))
      by_row None e = none_on k n e (get bucket.sessions n) refl ∙ sym (ap (is_open n) e)
      by_row (Some row) e =
          let opened = ap (is_open n) e ∙ row_is_open v b k n row (stand.fit (keys.Open v b k n) row e) in
          on_itself k n opened ∙ sym opened

  turned : (t : Bool) (code : Code) → cond t None (Some code) ≡ cond (not t) (Some code) None
  turned true code = refl
  turned false code = refl

  abbrev scope : Scope
  scope = scope_of namespace v

  -- in a bucket that is there, the session is missing or isn't
  pub session_missing : (k : List ℕ) (n : ℕ) (code : Option Code) (t : Bool) → code ≡ None → code ≡ first_of (no_volume scope ∷ no_bucket scope b ∷ [])
      → t ≡ is_open n (all (keys.Open v b k n))
      → cond t None (Some KeyNotFound) ≡ first_of (no_volume scope ∷ no_bucket scope b ∷ no_session bucket k n ∷ [])
  session_missing k n code t none e is =
      turned t KeyNotFound ∙ ap (λ (u : Bool). cond (not u) (Some KeyNotFound) None) (is ∙ sym (row_tells k n))
      ∙ none_found (no_volume scope ∷ no_bucket scope b ∷ []) (no_session bucket k n ∷ []) code none e
