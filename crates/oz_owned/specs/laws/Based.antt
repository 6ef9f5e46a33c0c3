-- Rows of the grammar that stand for a namespace have each the one that it needs.
use Rattle.std.proofs.Common.{◌≡◌, ℕ, true, List, [], ◌∷◌, Option, None, Some, is_some, refl, sym, ◌∙◌, ap, subst}
use Rattle.std.proofs.lemmas.Option.{none-some, same_Some}
use Rattle.std.specs.FinMap.{get}
use Rattle.std.specs.Option.{option_and_then}
use Rattle.oz_namespace.specs.declared.namespace.Bucket.{Bucket}
use Rattle.oz_namespace.specs.declared.namespace.Namespace.{Namespace}
use Rattle.oz_namespace.specs.declared.namespace.Session.{Session}
use Rattle.oz_namespace.specs.Namespace.{ByName, bucket_of, buckets_of, has_bucket, snapshots_in}
use Rattle.oz_rows.specs.declared.entry.RowEntry.{RowEntry}
use Rattle.oz_rows.specs.declared.key.RowKey.{RowKey}
use Rattle.oz_rows.specs.declared.key.RowKey.TheVariants as keys
use Rattle.oz_rows.specs.declared.row.Row.{Row}
use Rattle.oz_rows.specs.declared.row.Row.TheVariants as rows
use Rattle.oz_rows.specs.declared.row.SnapshotState.TheVariants.{Live, Marked}
use Rattle.oz_rows.specs.Rows.{RowFits}
use Rattle.oz_rows.specs.RowMaps.{AreRows, Rows}
use Rattle.oz_effects.specs.Build.{base_of}
use Rattle.oz_sound.specs.StandsFor.{AreSnapshots, StandsFor, is_among, pieces_in}
use Rattle.oz_owned.specs.Stood.{AreBased}

some_is : {A B : Type 0} (o : Option A) (then : A → Option B) (b : B) → option_and_then then o ≡ Some b → is_some o ≡ true
some_is None then b e = absurd (none-some b e)
some_is (Some a) then b e = refl

module _ (all : Rows) (namespace : Namespace) (stands : StandsFor all namespace) where
  -- a bucket that the namespace has is there, and so is its volume
  bucket_there : (volume bucket : List ℕ) → has_bucket namespace volume bucket ≡ true → all (keys.Bucket volume bucket) ≡ None → ⊥
  bucket_there volume bucket has none = absurd (cc (sym has ∙ stands.buckets volume bucket ∙ ap is_some none))

  volume_there : (volume bucket : List ℕ) → has_bucket namespace volume bucket ≡ true → all (keys.Volume volume) ≡ None → ⊥
  volume_there volume bucket has none = by (buckets_of namespace volume) refl
    where
      by : (o : Option (ByName Bucket)) → buckets_of namespace volume ≡ o → ⊥
      by None e = absurd (cc (sym has ∙ ap (λ (o : Option (ByName Bucket)). is_some (option_and_then (λ buckets. get buckets bucket) o)) e))
      by (Some buckets) e = absurd (cc (sym (ap is_some e) ∙ stands.volumes volume ∙ ap is_some none))

  -- what stands in a bucket of the namespace
  key_bucket : (volume bucket key : List ℕ) (row : Row) → RowFits (keys.Key volume bucket key) row → all (keys.Key volume bucket key) ≡ Some row
      → has_bucket namespace volume bucket ≡ true
  key_bucket volume bucket key (rows.Key number pieces) fits there =
      some_is (bucket_of namespace volume bucket) (λ (b : Bucket). get b.keys key) pieces
      (stands.pieces volume bucket key ∙ ap pieces_in there)
  key_bucket volume bucket key row fits there = absurd fits.1

  session_bucket : (volume bucket key : List ℕ) (number : ℕ) (row : Row) → RowFits (keys.Open volume bucket key number) row
      → all (keys.Open volume bucket key number) ≡ Some row → has_bucket namespace volume bucket ≡ true
  session_bucket volume bucket key number (rows.Open blocks) fits there =
      let session : Session = record { key = key; blocks = blocks } in
      some_is (bucket_of namespace volume bucket) (λ (b : Bucket). get b.sessions number) session
      ((stands.sessions volume bucket number session).1 there)
  session_bucket volume bucket key number row fits there = absurd fits.1

  none_among : (volume bucket numbers : List ℕ) (number : ℕ) → AreSnapshots all volume bucket numbers [] → is_among number numbers ≡ true → ⊥
  none_among volume bucket [] number are among = absurd cc
  none_among volume bucket (n ∷ numbers) number are among = are

  snapshot_bucket : (volume bucket name : List ℕ) (number previous : ℕ)
      → all (keys.Snapshot volume bucket number) ≡ Some (rows.Snapshot name previous Live) → has_bucket namespace volume bucket ≡ true
  snapshot_bucket volume bucket name number previous there = by (bucket_of namespace volume bucket) refl
    where
      by : (o : Option Bucket) → bucket_of namespace volume bucket ≡ o → is_some (bucket_of namespace volume bucket) ≡ true
      by None e =
          let of = stands.snapshots volume bucket in
          absurd (none_among volume bucket of.numbers number (subst (AreSnapshots all volume bucket of.numbers) (ap snapshots_in e) of.each)
          (of.every number (name, previous, there)))
      by (Some found) e = ap is_some e

  none_needed : (key base : RowKey) (row : Row) → RowFits key row → all key ≡ Some row → base_of key row ≡ Some base → all base ≡ None → ⊥
  none_needed (keys.Bucket volume bucket) base row fits there needs none =
      volume_there volume bucket (stands.buckets volume bucket ∙ ap is_some there)
      (ap all (same_Some (keys.Volume volume) base needs) ∙ none)
  none_needed (keys.Key volume bucket key) base row fits there needs none =
      bucket_there volume bucket (key_bucket volume bucket key row fits there) (ap all (same_Some (keys.Bucket volume bucket) base needs) ∙ none)
  none_needed (keys.Open volume bucket key number) base row fits there needs none =
      bucket_there volume bucket (session_bucket volume bucket key number row fits there) (ap all (same_Some (keys.Bucket volume bucket) base needs) ∙ none)
  none_needed (keys.Snapshot volume bucket number) base (rows.Snapshot name previous Live) fits there needs none =
      bucket_there volume bucket (snapshot_bucket volume bucket name number previous there)
      (ap all (same_Some (keys.Bucket volume bucket) base needs) ∙ none)
  none_needed (keys.Snapshot volume bucket number) base (rows.Snapshot name previous Marked) fits there needs none = absurd (none-some base needs)
  none_needed (keys.Snapshot volume bucket number) base row fits there needs none = absurd fits.1
  none_needed key base row fits there needs none = absurd (none-some base needs)

  pub standing_based : (listed : List RowEntry) → AreRows listed all → ((key : RowKey) (row : Row) → all key ≡ Some row → RowFits key row) → AreBased all
  standing_based listed are fit = record {
    all = listed;
    are = are;
    based = λ key base orphan.
        let there = sym (are.rows_are key) ∙ orphan.stands in
        none_needed key base orphan.row (fit key orphan.row there) there orphan.needs (sym (are.rows_are base) ∙ orphan.absent);
  }
