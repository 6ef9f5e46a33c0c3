-- A session is opened: what is refused, and what the two rows are to any rows.
use Rattle.std.proofs.Common.{◌≡◌, ◌≤◌, ◌<◌, ◌+◌, ℕ, Bool, false, nat_le, List, [], ◌∷◌, ◌++◌, length, Option, None, Some, IsSome, is_some, cond, sym, ◌∙◌, ap, subst, arith, append-nil}
use mathlib.Core.Bool.{false≢true}
use Rattle.std.proofs.lemmas.Bool.Decides.{nat_tests}
use Rattle.std.proofs.lemmas.Option.{same_Some}
use Rattle.oz_effects.specs.Batches.{IsBatchOf}
use Rattle.oz_effects.specs.laws.Joined.{batches_are_one}
use Rattle.oz_names.specs.Names.{stripe_of}
use Rattle.oz_names.specs.declared.code.Code.{Code}
use Rattle.oz_names.specs.declared.code.Code.TheVariants.{BucketFull, NumbersSpent}
use Rattle.oz_namespace.specs.declared.namespace.Namespace.{Namespace}
use Rattle.oz_model.specs.Answers.{AnswersIn, reply_from}
use Rattle.oz_model.specs.Buckets.{bucket_at, is_full, are_spent, next_number}
use Rattle.oz_model.specs.Refusals.{Refusal, where_so, first_of, no_volume, no_bucket, refusal}
use Rattle.oz_model.specs.Scope.{scope_of}
use Rattle.oz_model.specs.declared.scope.Scope.{Scope}
use Rattle.oz_requests.specs.declared.reply.Reply.TheVariants as replies
use Rattle.oz_requests.specs.declared.request.Request.TheVariants.{CreateKey}
use Rattle.oz_requests.specs.Names.{name_fault}
use Rattle.oz_rows.specs.declared.key.RowKey.{RowKey}
use Rattle.oz_rows.specs.declared.key.RowKey.TheVariants as keys
use Rattle.oz_rows.specs.declared.operation.Change.{Change}
use Rattle.oz_rows.specs.declared.operation.Operation.TheVariants.{Put}
use Rattle.oz_rows.specs.declared.row.Row.TheVariants as rows
use Rattle.oz_rows.specs.Operations.{batch_bytes, operation_bytes}
use Rattle.oz_rows.specs.RowMaps.{Rows, put, after_changes}
use Rattle.oz_rows.specs.Rows.{RowFits}
use Rattle.oz_sound.specs.Sound.{IsSoundButRenames}
use Rattle.oz_sound.specs.StandsFor.{drawn_in}
use Rattle.oz_decision.specs.Drafts.{row_by_row}
use Rattle.oz_decision.specs.Meets.{AreInGrammar, IsSafe, Stand}
use Rattle.oz_decision.specs.laws.OneRow.{put_is_safe, alone_is_short}
use Rattle.oz_decision.specs.laws.SessionRows.{volume_is, bucket_is, key_is}
use Rattle.oz_decision.specs.laws.Sessions.{own_refusals, first_found, none_found}
use Rattle.oz_om_session.specs.om_open.Records.{changes_of_create}
use Rattle.oz_om_session.proofs.om_open_lemmas.Numbers.{stripe_is, drawn_shown}

pub from_under : (a b : ℕ) → b < a → nat_le a b ≡ false
from_under a b e = grind (arith, nat_tests, e)

-- what is refused
module _ (all : Rows) (v b k : List ℕ) (named : name_fault (CreateKey v b k) ≡ None) (namespace : Namespace) (stand : Stand IsSoundButRenames all namespace) where
  abbrev scope : Scope
  scope = scope_of namespace v

  abbrev not_there : List Refusal
  not_there = no_volume scope ∷ no_bucket scope b ∷ []

  abbrev full : Refusal
  full = where_so (is_full (bucket_at namespace v b)) BucketFull

  abbrev spent : Refusal
  spent = where_so (are_spent scope) NumbersSpent

  pub drawn_is : scope.drawn ≡ drawn_in (all (keys.Stripe (stripe_of v)))
  drawn_is = drawn_shown all namespace stand.stands.stripes (stripe_of v) (stripe_is v)

  pub refused_missing : (code : Option Code) (c : Code) → code ≡ Some c → code ≡ first_of not_there → Some c ≡ refusal scope (CreateKey v b k)
  refused_missing code c is e = first_found not_there (full ∷ spent ∷ []) code c is e ∙ sym (own_refusals scope (CreateKey v b k) named)

  -- a bucket that is there and full, or numbers that are spent
  pub refused_own : (code : Option Code) (t : Bool) (drawn : ℕ) → code ≡ None → code ≡ first_of not_there → t ≡ is_full (bucket_at namespace v b) → drawn ≡ drawn_in (all (keys.Stripe (stripe_of v)))
      → cond t (Some BucketFull) (cond (nat_le 281474976710656 drawn) (Some NumbersSpent) None) ≡ refusal scope (CreateKey v b k)
  refused_own code t drawn none e is drawn_so =
      (λ i. cond (is i) (Some BucketFull) (cond (nat_le 281474976710656 ((drawn_so ∙ sym drawn_is) i)) (Some NumbersSpent) None))
      ∙ none_found not_there (full ∷ spent ∷ []) code none e ∙ sym (own_refusals scope (CreateKey v b k) named)

  pub answers : (drawn : ℕ) → drawn ≡ drawn_in (all (keys.Stripe (stripe_of v))) → None ≡ refusal scope (CreateKey v b k) → AnswersIn scope (CreateKey v b k) (replies.Session (drawn + 1))
  answers drawn drawn_so none =
      ap (λ d. replies.Session (d + 1)) (drawn_so ∙ sym drawn_is) ∙ ap (λ o. reply_from o (replies.Session (next_number scope))) none

none_apart : {A : Type 0} {P : Type 0} (a : A) → None ≡ Some a → P
none_apart a e = absurd (false≢true (ap is_some e))

module _ (v b k : List ℕ) (n : ℕ) (named : name_fault (CreateKey v b k) ≡ None) (least : 1 ≤ n) (few : n ≤ 281474976710656) where
  abbrev session : RowKey
  session = keys.Open v b k n

  abbrev stripe : RowKey
  stripe = keys.Stripe (stripe_of v)

  pub session_fits : RowFits session (rows.Open [])
  session_fits = ((volume_is v b k [] named, bucket_is v b k [] named, key_is v b k [] named, (least, omega (arith, few))), (omega arith, tt))

  pub stripe_fits : RowFits stripe (rows.Stripe n)
  stripe_fits = (stripe_is v, few)

  abbrev pub changes : List Change
  changes = changes_of_create (CreateKey v b k) n

  abbrev first : List Change
  first = put session (rows.Open []) ∷ []

  abbrev second : List Change
  second = put stripe (rows.Stripe n) ∷ []

  abbrev bytes_of : List Change → List ℕ
  bytes_of changes = batch_bytes (row_by_row changes)

  bytes_are : bytes_of first ++ bytes_of second ≡ bytes_of changes
  bytes_are = ap (λ (l : List ℕ). l ++ bytes_of second) (append-nil (operation_bytes (Put session (rows.Open []))))

  size_join : (x y : List ℕ) → length (x ++ y) ≡ length x + length y
  size_join [] y = omega arith
  size_join (n ∷ x) y = omega (arith, size_join x y)

  pub is_short : length (bytes_of changes) ≤ 12608
  is_short =
      let one = alone_is_short (Put session (rows.Open [])) session_fits in
      let two = alone_is_short (Put stripe (rows.Stripe n)) stripe_fits in
      let parts = size_join (bytes_of first) (bytes_of second) in
      let whole = ap length bytes_are in
      omega (arith, one, two, parts, whole)

  -- a bucket that is there may have a session more
  pub is_safe : (all : Rows) → IsSome (all (keys.Bucket v b)) → AreInGrammar all → IsSafe all (bytes_of changes) changes
  is_safe all there fit =
      let one = put_is_safe all fit session (rows.Open []) session_fits (λ base e. subst (λ q. IsSome (all q)) (same_Some (keys.Bucket v b) base e) there) in
      let two = put_is_safe (after_changes first all) one.fit stripe (rows.Stripe n) stripe_fits (λ base e. none_apart base e) in
      record {
        batch = subst (λ (l : List ℕ). IsBatchOf all l changes) bytes_are (batches_are_one all (bytes_of first) (bytes_of second) first second one.batch two.batch);
        size = (let short = is_short in omega (arith, short));
        fit = two.fit;
      }
