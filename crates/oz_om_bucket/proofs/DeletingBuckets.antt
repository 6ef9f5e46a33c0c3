-- A bucket goes in which no key, no session and no snapshot is.
use Rattle.std.proofs.Common.{◌≡◌, ℕ, Bool, true, false, nat_lt, ◌||◌, List, [], ◌∷◌, length, Option, None, Some, IsSome, cond, refl, sym, ◌∙◌, ap, subst, arith}
use mathlib.Core.Bool.{false≢true}
use Rattle.std.proofs.lemmas.Bool.Decides.{nat_tests}
use Rattle.std.proofs.lemmas.Cmp.{nat_list_cmp_total}
use Rattle.std.specs.Ordering.{nat_cmp}
use Rattle.std.specs.Cmp.Lexicographic.{slice_cmp}
use Rattle.std.specs.FinMap.{get, remove, empty, get-empty, empty_of_len, get-remove}
use Rattle.oz_effects.specs.Build.{base_of}
use Rattle.oz_names.specs.Names.{IsVolumeName, IsBucketName}
use Rattle.oz_namespace.specs.declared.namespace.Bucket.{Bucket}
use Rattle.oz_namespace.specs.declared.namespace.Namespace.{Namespace}
use Rattle.oz_namespace.specs.Namespace.{ByName, has_volume, has_bucket, buckets_of, bucket_of}
use Rattle.oz_model.specs.Buckets.{buckets_at, bucket_at, bucket_or_new}
use Rattle.oz_model.specs.Refusals.{refusal, refusals}
use Rattle.oz_model.specs.Scope.{scope_of}
use Rattle.oz_requests.specs.declared.request.Request.TheVariants.{DeleteBucket}
use Rattle.oz_rows.specs.declared.key.RowKey.{RowKey}
use Rattle.oz_rows.specs.declared.key.RowKey.TheVariants as keys
use Rattle.oz_rows.specs.declared.operation.Operation.TheVariants.{Remove}
use Rattle.oz_rows.specs.declared.row.Row.{Row}
use Rattle.oz_rows.specs.declared.row.Row.TheVariants as rows
use Rattle.oz_rows.specs.declared.row.SnapshotState.TheVariants.{Live}
use Rattle.oz_rows.specs.Operations.{batch_bytes}
use Rattle.oz_rows.specs.RowMaps.{Rows, is_same, gone}
use Rattle.oz_sound.specs.Sound.{IsSoundButRenames}
use Rattle.oz_sound.specs.laws.BucketRows.{SeenAlike}
use Rattle.oz_sound.specs.laws.BucketChanges.{is_name, replaced, bucket_changes}
use Rattle.oz_decision.specs.Meets.{AreInGrammar, IsSafe, Stand}
use Rattle.oz_decision.specs.laws.Lookups.{looked_up, there_are}
use Rattle.oz_decision.specs.laws.OneRow.{removal_is_safe}
use Rattle.oz_decision.specs.laws.Refusing.{passed}
use Rattle.oz_decision.specs.laws.Rising.{each_in_turn}
use Rattle.oz_om_bucket.specs.Allowed.{IsAllowed}
use Rattle.oz_om_bucket.proofs.Changing.{some_apart, not_false, Does, differs}

none_in : (n : ℕ) → nat_lt 0 n ≡ false → n ≡ 0
none_in n e = grind (arith, nat_tests, e)

neither : (a b : Bool) → a || b ≡ false → record { first : a ≡ false; second : b ≡ false }
neither false b e = record { first = refl; second = e }
neither true b e = absurd (false≢true (sym e))

no_items : {A : Type 0} (l : List A) → length l ≡ 0 → l ≡ []
no_items [] e = refl
no_items (a ∷ l) e = absurd (omega arith)

-- in a bucket without keys, sessions and snapshots nothing is seen
bare_seen : (o : Option Bucket) → (bucket_or_new o).keys ≡ empty → (bucket_or_new o).sessions ≡ empty → (bucket_or_new o).snapshots ≡ [] → SeenAlike o None
bare_seen None keys sessions snapshots = record { pieces = λ k. refl; sessions = λ n. refl; snapshots = refl }
bare_seen (Some bucket) keys sessions snapshots = record {
  pieces = λ k. sym (ap (λ m. get m k) keys ∙ get-empty (slice_cmp nat_cmp) k);
  sessions = λ n. sym (ap (λ m. get m n) sessions ∙ get-empty nat_cmp n);
  snapshots = sym snapshots;
}

there_before : (t : Bool) (row : Option Row) → IsSome (cond t None row) → IsSome row
there_before true row some = absurd (false≢true some)
there_before false row some = some

module _ (all : Rows) (v b : List ℕ) (allowed : IsAllowed all (DeleteBucket v b)) where
  -- what would stand on the bucket is a key, an open key or a live snapshot of it
  no_user : AreInGrammar all → (other : RowKey) (row : Row) → all other ≡ Some row → base_of other row ≡ Some (keys.Bucket v b) → ⊥
  no_user fit (keys.Key w c k) row e base = let same : w ≡ v = cc in let same' : c ≡ b = cc in some_apart (sym e ∙ (λ i. all (keys.Key (same i) (same' i) k)) ∙ allowed.1.no_key k)
  no_user fit (keys.Open w c k n) row e base = let same : w ≡ v = cc in let same' : c ≡ b = cc in some_apart (sym e ∙ (λ i. all (keys.Open (same i) (same' i) k n)) ∙ allowed.1.no_session k n)
  no_user fit (keys.Snapshot w c n) (rows.Snapshot name previous Live) e base = let same : w ≡ v = cc in let same' : c ≡ b = cc in allowed.2 fit n (name, previous, (λ i. all (keys.Snapshot (sym same i) (sym same' i) n)) ∙ e)
  no_user fit (keys.Bucket w c) row e base = absurd (cc)
  no_user fit other row e base = absurd (some_apart (sym base))

  pub is_safe : AreInGrammar all → IsVolumeName v → IsBucketName b → IsSafe all (batch_bytes (Remove (keys.Bucket v b) ∷ [])) (gone (keys.Bucket v b) ∷ [])
  is_safe fit fits fits' = removal_is_safe all fit (keys.Bucket v b) (fits, fits') allowed.0 (no_user fit)

  pub does : (namespace : Namespace) → Stand IsSoundButRenames all namespace → refusal (scope_of namespace v) (DeleteBucket v b) ≡ None → Does all namespace (DeleteBucket v b)
  does namespace stand none =
      let tests = passed (refusals (scope_of namespace v) (DeleteBucket v b)) none in
      let there : has_volume namespace v ≡ true = not_false _ tests.1.1.0 in
      let had : has_bucket namespace v b ≡ true = stand.stands.buckets v b ∙ allowed.0 in
      let unused = neither _ _ tests.1.1.1.1.0 in
      let bucket = bucket_at namespace v b in
      let seen : SeenAlike (bucket_of namespace v b) None = bare_seen (bucket_of namespace v b) (empty_of_len bucket.keys (none_in _ unused.first)) (empty_of_len bucket.sessions (none_in _ unused.second)) (no_items bucket.snapshots (none_in _ tests.1.1.1.1.1.0)) in
      let buckets = buckets_at namespace v in
      let changed : ByName Bucket = remove buckets b in
      let gets : (q : List ℕ) → get changed q ≡ cond (is_name q b) None (get buckets q) = λ q. get-remove nat_list_cmp_total buckets b q in
      record {
        stands = bucket_changes all (replaced all (keys.Bucket v b) None) namespace v b None stand.stands (λ key. refl) buckets changed (there_are (buckets_of namespace v) there) None gets (subst (λ o. SeenAlike o None) (looked_up (buckets_of namespace v) b) seen) refl;
        few = λ w items apart some. stand.sound.counts.buckets w items apart (each_in_turn _ _ (λ q is. there_before (is_same (keys.Bucket v b) (keys.Bucket w q)) (all (keys.Bucket w q)) is) items some);
        keeps = λ e. absurd (false≢true (differs namespace v b changed None gets true had e));
      }
