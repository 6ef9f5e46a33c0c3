-- A bucket is created in a volume that has room for it.
use Rattle.std.proofs.Common.{◌≡◌, ◌<◌, ◌≤◌, ◌+◌, ℕ, Bool, true, false, List, [], ◌∷◌, Option, None, Some, IsSome, is_some, cond, nat_le, ◌&&◌, refl, sym, ◌∙◌, ap, subst, arith}
use mathlib.Core.Bool.{false≢true}
use Rattle.std.proofs.lemmas.Bool.Decides.{nat_tests}
use Rattle.std.proofs.lemmas.Cmp.{nat_list_cmp_total}
use Rattle.std.proofs.lemmas.Option.{same_Some}
use Rattle.std.specs.Ordering.{nat_cmp}
use Rattle.std.specs.Cmp.Lexicographic.{slice_cmp}
use Rattle.std.specs.FinMap.{len, get, insert, get-empty, get-insert, len-insert}
use Rattle.oz_names.specs.Names.{IsVolumeName, IsBucketName}
use Rattle.oz_namespace.specs.declared.namespace.Bucket.{Bucket}
use Rattle.oz_namespace.specs.declared.namespace.Namespace.{Namespace}
use Rattle.oz_namespace.specs.Namespace.{ByName, has_bucket, buckets_of, with_volume, new_bucket}
use Rattle.oz_model.specs.Buckets.{buckets_at}
use Rattle.oz_model.specs.Refusals.{refusal, refusals}
use Rattle.oz_model.specs.Scope.{scope_of}
use Rattle.oz_requests.specs.declared.request.Request.TheVariants.{CreateBucket}
use Rattle.oz_rows.specs.declared.key.RowKey.TheVariants as keys
use Rattle.oz_rows.specs.declared.operation.Operation.TheVariants.{Put}
use Rattle.oz_rows.specs.declared.row.Row.TheVariants as rows
use Rattle.oz_rows.specs.Operations.{batch_bytes}
use Rattle.oz_rows.specs.RowMaps.{Rows, put}
use Rattle.oz_sound.specs.Sound.{AtMost, IsSoundButRenames}
use Rattle.oz_sound.specs.StandsFor.{StandsFor}
use Rattle.oz_sound.specs.laws.BucketRows.{SeenAlike}
use Rattle.oz_sound.specs.laws.BucketChanges.{is_name, one_name, itself, same_bucket, replaced, bucket_changes}
use Rattle.oz_decision.specs.Meets.{AreInGrammar, IsSafe, Stand}
use Rattle.oz_decision.specs.laws.Lookups.{looked_up, there_are}
use Rattle.oz_decision.specs.laws.OneRow.{put_is_safe}
use Rattle.oz_decision.specs.laws.Refusing.{passed}
use Rattle.oz_decision.specs.laws.Rising.{each_in_turn}
use Rattle.oz_om_bucket.specs.Allowed.{IsAllowed}
use Rattle.oz_om_bucket.proofs.Changing.{Does, differs, few_rows}

under : (n m : ℕ) → nat_le n m ≡ false → m < n
under n m e = grind (arith, nat_tests, e)

none_yet : {A : Type 0} (o : Option A) → is_some o ≡ false → o ≡ None
none_yet None e = refl
none_yet (Some a) e = absurd (false≢true (sym e))

-- nothing is seen in a new bucket
seen_in_new : SeenAlike None (Some new_bucket)
seen_in_new = record { pieces = λ k. get-empty (slice_cmp nat_cmp) k; sessions = λ n. get-empty nat_cmp n; snapshots = refl }

module _ (all : Rows) (v b : List ℕ) (allowed : IsAllowed all (CreateBucket v b)) where
  abbrev now : Rows
  now = replaced all (keys.Bucket v b) (Some rows.Bucket)

  pub is_safe : AreInGrammar all → IsVolumeName v → IsBucketName b → IsSafe all (batch_bytes (Put (keys.Bucket v b) rows.Bucket ∷ [])) (put (keys.Bucket v b) rows.Bucket ∷ [])
  is_safe fit fits fits' = put_is_safe all fit (keys.Bucket v b) rows.Bucket ((fits, fits'), tt) (λ base e. subst (λ k. IsSome (all k)) (same_Some _ base e) allowed)

  -- other volumes have the buckets that they had
  few_after : (after : Namespace) (changed : ByName Bucket) → StandsFor now after → buckets_of after v ≡ Some changed → len changed ≤ 1024 → ((w : List ℕ) → AtMost 1024 (λ q. IsSome (all (keys.Bucket w q)))) → (w : List ℕ) → AtMost 1024 (λ q. IsSome (now (keys.Bucket w q)))
  few_after after changed stands is_there few before w = by_test (is_name w v) refl
    where
      by_test : (t : Bool) → is_name w v ≡ t → AtMost 1024 (λ q. IsSome (now (keys.Bucket w q)))
      by_test true e = few_rows now after stands w changed (ap (buckets_of after) (one_name w v e) ∙ is_there) few
      by_test false e = λ items apart some. before w items apart (each_in_turn _ _ (λ q is. subst IsSome (ap (λ (t : Bool). cond t (Some rows.Bucket) (all (keys.Bucket w q))) (same_bucket v b w q ∙ ap (λ (t : Bool). t && is_name q b) e)) is) items some)

  pub does : (namespace : Namespace) → Stand IsSoundButRenames all namespace → refusal (scope_of namespace v) (CreateBucket v b) ≡ None → Does all namespace (CreateBucket v b)
  does namespace stand none =
      let tests = passed (refusals (scope_of namespace v) (CreateBucket v b)) none in
      let there : buckets_of namespace v ≡ Some (buckets_at namespace v) = there_are (buckets_of namespace v) (stand.stands.volumes v ∙ allowed) in
      let missing : has_bucket namespace v b ≡ false = tests.1.1.1.0 in
      let room : len (buckets_at namespace v) < 1024 = under _ _ tests.1.1.1.1.0 in
      let buckets = buckets_at namespace v in
      let changed : ByName Bucket = insert buckets b new_bucket in
      let gets : (q : List ℕ) → get changed q ≡ cond (is_name q b) (Some new_bucket) (get buckets q) = λ q. get-insert nat_list_cmp_total buckets b new_bucket q in
      let absent : get buckets b ≡ None = none_yet _ (ap is_some (sym (looked_up (buckets_of namespace v) b)) ∙ missing) in
      let stands : StandsFor now (with_volume namespace v changed) = bucket_changes all now namespace v b (Some rows.Bucket) stand.stands (λ key. refl) buckets changed there (Some new_bucket) gets (subst (λ o. SeenAlike o (Some new_bucket)) (sym absent) seen_in_new) refl in
      let its_len : len changed ≤ 1024 = omega (arith, len-insert nat_list_cmp_total buckets b new_bucket ∙ ap (λ (o : Option Bucket). cond (is_some o) (len buckets) (len buckets + 1)) absent, room) in
      record {
        stands = stands;
        few = few_after (with_volume namespace v changed) changed stands (get-insert nat_list_cmp_total namespace.volumes v changed v ∙ ap (λ (t : Bool). cond t (Some changed) (buckets_of namespace v)) (itself v)) its_len stand.sound.counts.buckets;
        keeps = λ e. absurd (false≢true (sym (differs namespace v b changed (Some new_bucket) gets false missing e)));
      }
