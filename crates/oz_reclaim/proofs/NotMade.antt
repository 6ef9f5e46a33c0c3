-- Why no snapshot is made, which number is the bucket's last, and what is recorded where one is made.
use Rattle.std.proofs.Common.{◌≡◌, ◌⊎◌, inl, inr, ℕ, ◌<◌, ◌≤◌, Bool, true, false, nat_le, List, [], ◌∷◌, ◌++◌, length, Option, None, Some, IsSome, is_some, cond, refl, sym, ◌∙◌, ap, arith, append_assoc, append-nil, ◌+◌}
use mathlib.Core.Bool.{false≢true}
use Rattle.std.proofs.lemmas.Bool.Decides.{nat_tests}
use Rattle.std.proofs.lemmas.List.Concat.{flat_map-append}
use Rattle.oz_decision.specs.Drafts.{row_by_row}
use Rattle.oz_decision.specs.Meets.{Stand}
use Rattle.oz_decision.specs.Replies.{ShowsThat}
use Rattle.oz_effects.specs.Effects.{operation_changes}
use Rattle.oz_model.specs.Buckets.{bucket_at, snapshot_keys}
use Rattle.oz_model.specs.Refusals.{first_of, no_bucket, no_volume, refusal}
use Rattle.oz_model.specs.Scope.{scope_of}
use Rattle.oz_model.specs.laws.Order.{refused_by_row}
use Rattle.oz_names.specs.Names.{stripe_of}
use Rattle.oz_names.specs.declared.code.Code.{Code}
use Rattle.oz_names.specs.declared.code.Code.TheVariants.{NumbersSpent, SnapshotAlreadyExists, SnapshotLimit}
use Rattle.oz_namespace.specs.declared.namespace.Namespace.{Namespace}
use Rattle.oz_reclaim.specs.Creates.{Creates, IsLastNumber}
use Rattle.oz_reclaim.specs.Marks.{HasNumber, IsNamed}
use Rattle.oz_reclaim.specs.Work.{IsNextOwner}
use Rattle.oz_reclaim.proofs.Marked.{is_not_there, is_there}
use Rattle.oz_reclaim.proofs.Stripes.{drawn_shown, stripe_is}
use Rattle.oz_requests.specs.declared.request.Request.{Request}
use Rattle.oz_requests.specs.declared.request.Request.TheVariants.{CreateSnapshot}
use Rattle.oz_requests.specs.Names.{name_fault}
use Rattle.oz_rows.specs.declared.key.RowKey.TheVariants as keys
use Rattle.oz_rows.specs.declared.entry.RowEntry.{RowEntry}
use Rattle.oz_rows.specs.declared.operation.Change.{Change}
use Rattle.oz_rows.specs.declared.operation.Operation.TheVariants.{CopyKeys, MoveDeleted}
use Rattle.oz_rows.specs.declared.row.Row.TheVariants as rows
use Rattle.oz_rows.specs.declared.row.SnapshotState.TheVariants.{Live}
use Rattle.oz_rows.specs.Operations.{batch_bytes, operation_bytes}
use Rattle.oz_rows.specs.RowMaps.{Rows, AreRows, put}
use Rattle.oz_sound.specs.Sound.{IsSoundButRenames}
use Rattle.oz_sound.specs.StandsFor.{drawn_in}

-- ---- the last number

abbrev pub IsSoFar : Rows → List ℕ → List ℕ → ℕ → Type 0
IsSoFar all v b last = (last ≡ 0) ⊎ IsSome (all (keys.Snapshot v b last))

module _ (all : Rows) (v b : List ℕ) (last : ℕ) where
  pub so_far : (number : ℕ) → IsNextOwner all v b last number → IsSoFar all v b number
  so_far number (inl (zero, none)) = inl zero
  so_far number (inr (later, least)) = inr later.1

  pub is_last : IsSoFar all v b last → IsNextOwner all v b last 0 → IsLastNumber all v b last
  is_last far (inl (zero, none)) = (far, none)
  is_last far (inr (later, least)) = absurd (let under = later.0 in omega (arith, under))

-- ---- the refusals

pub no_number : (all : Rows) (v b name : List ℕ) (found : Option ℕ) → HasNumber all v b name found → is_some found ≡ false → HasNumber all v b name None
no_number all v b name None has e = has
no_number all v b name (Some n) has e = absurd (false≢true (sym e))

pub some_number : (all : Rows) (v b name : List ℕ) (found : Option ℕ) → HasNumber all v b name found → is_some found ≡ true → (n : ℕ) × IsNamed all v b name n
some_number all v b name None has e = absurd (false≢true e)
some_number all v b name (Some n) has e = (n, has.1)

at_least : (m n : ℕ) → m ≤ n → nat_le m n ≡ true
at_least m n e = grind (arith, nat_tests, e)

below : (m n : ℕ) → n < m → nat_le m n ≡ false
below m n e = grind (arith, nat_tests, e)

module _ (all : Rows) (v b name : List ℕ) (named : name_fault (CreateSnapshot v b name) ≡ None) (there : ShowsThat all (λ namespace. None ≡ first_of (no_volume (scope_of namespace v) ∷ no_bucket (scope_of namespace v) b ∷ []))) where
  abbrev it : Request
  it = CreateSnapshot v b name

  -- which of the three tests is the first that applies
  abbrev first_test : Bool → Bool → Bool → Option Code
  first_test taken full spent = cond taken (Some SnapshotAlreadyExists) (cond full (Some SnapshotLimit) (cond spent (Some NumbersSpent) None))

  module _ (namespace : Namespace) (stand : Stand IsSoundButRenames all namespace) where
    abbrev spent_by : ℕ → Bool
    spent_by drawn = nat_le 281474976710656 drawn

    tests : (taken full : Bool) (drawn : ℕ) → is_some (snapshot_keys (bucket_at namespace v b).snapshots name) ≡ taken → nat_le 32 (length (bucket_at namespace v b).snapshots) ≡ full → drawn ≡ drawn_in (all (keys.Stripe (stripe_of v))) → refusal (scope_of namespace v) it ≡ first_test taken full (spent_by drawn)
    tests taken full drawn is_taken is_full is_drawn =
        refused_by_row (scope_of namespace v) it named (sym (there namespace stand))
        ∙ (λ i. first_test (is_taken i) (is_full i) (spent_by ((drawn_shown all namespace stand.stands.stripes (stripe_of v) (stripe_is v) ∙ sym is_drawn) i)))

  abbrev drawn_there : ℕ
  drawn_there = drawn_in (all (keys.Stripe (stripe_of v)))

  abbrev IsRefusal : Option Code → Type 0
  IsRefusal code = ShowsThat all (λ namespace. code ≡ refusal (scope_of namespace v) it)

  pub taken_refuses : (n : ℕ) → IsNamed all v b name n → IsRefusal (Some SnapshotAlreadyExists)
  taken_refuses n one = λ namespace stand.
      sym (tests namespace stand true (nat_le 32 (length (bucket_at namespace v b).snapshots)) drawn_there (is_there all v b name namespace stand n one) refl refl)

  module _ (free : HasNumber all v b name None) (count : ℕ) (counted : ShowsThat all (λ namespace. count ≡ length (bucket_at namespace v b).snapshots)) where
    pub full_refuses : 32 ≤ count → IsRefusal (Some SnapshotLimit)
    full_refuses many = λ namespace stand.
        sym (tests namespace stand false true drawn_there (is_not_there all v b name namespace stand free) (ap (nat_le 32) (sym (counted namespace stand)) ∙ at_least 32 count many) refl)

    module _ (room : count < 32) (drawn : ℕ) (is_drawn : drawn ≡ drawn_there) where
      by_spent : (t : Bool) → nat_le 281474976710656 drawn ≡ t → IsRefusal (cond t (Some NumbersSpent) None)
      by_spent t spent = λ namespace stand.
          sym (tests namespace stand false false drawn (is_not_there all v b name namespace stand free) (ap (nat_le 32) (sym (counted namespace stand)) ∙ below 32 count room) is_drawn
          ∙ ap (λ (t : Bool). cond t (Some NumbersSpent) None) spent)

      pub spent_refuses : 281474976710656 ≤ drawn → IsRefusal (Some NumbersSpent)
      spent_refuses many = by_spent true (at_least 281474976710656 drawn many)

      pub none_refuses : drawn < 281474976710656 → IsRefusal None
      none_refuses few = by_spent false (below 281474976710656 drawn few)

-- ---- the batch of a new snapshot

pub joined : (draft one two copied moved copies moves : List Change) → copied ≡ draft ++ one → moved ≡ copied ++ two → one ≡ copies → two ≡ moves → moved ≡ draft ++ (copies ++ moves)
joined draft one two copied moved copies moves first second is_one is_two =
    second ∙ ap (λ (l : List Change). l ++ two) first ∙ append_assoc draft one two ∙ (λ i. draft ++ (is_one i ++ is_two i))

module _ (all : Rows) (v b name : List ℕ) (n previous : ℕ) (first draft_bytes : List ℕ) (puts draft : List Change)
    (put_bytes : first ≡ batch_bytes (row_by_row puts)) (puts_are : puts ≡ put (keys.Stripe (stripe_of v)) (rows.Stripe n) ∷ put (keys.Snapshot v b n) (rows.Snapshot name previous Live) ∷ [])
    (bytes : draft_bytes ≡ first ++ batch_bytes (CopyKeys v b n ∷ MoveDeleted v b 0 n ∷ []))
    (changes : (entries : List RowEntry) → AreRows entries all → draft ≡ puts ++ (operation_changes entries (CopyKeys v b n) ++ operation_changes entries (MoveDeleted v b 0 n))) where
  abbrev both : List Change
  both = put (keys.Stripe (stripe_of v)) (rows.Stripe n) ∷ put (keys.Snapshot v b n) (rows.Snapshot name previous Live) ∷ []

  pub creates : IsSome (all (keys.Bucket v b)) → HasNumber all v b name None → n ≡ drawn_in (all (keys.Stripe (stripe_of v))) + 1 → n ≤ 281474976710656 → IsLastNumber all v b previous → Creates all v b name draft_bytes draft
  creates there free next few last = record {
    bucket_there = there;
    name_is_free = free;
    number = n;
    next = next;
    few = few;
    previous = previous;
    last = last;
    batch = bytes ∙ ap (λ (l : List ℕ). l ++ batch_bytes (CopyKeys v b n ∷ MoveDeleted v b 0 n ∷ [])) (put_bytes ∙ ap (λ (c : List Change). batch_bytes (row_by_row c)) puts_are)
        ∙ sym (flat_map-append operation_bytes (row_by_row both) (CopyKeys v b n ∷ MoveDeleted v b 0 n ∷ []));
    made = λ entries are.
        changes entries are
        ∙ (λ i. puts_are i ++ (operation_changes entries (CopyKeys v b n) ++ sym (append-nil (operation_changes entries (MoveDeleted v b 0 n))) i));
  }
