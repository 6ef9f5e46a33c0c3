-- A namespace that has the volumes and the numbers of rows is the one that they stand for.
use Rattle.std.proofs.Common.{◌≡◌, ◌⊎◌, inl, inr, ℕ, false, List, map, Option, None, Some, IsSome, is_some, refl, sym, ◌∙◌, ap, subst}
use mathlib.Core.Bool.{false≢true}
use Rattle.std.specs.FinMap.{get}
use Rattle.std.specs.Option.{option_and_then}
use Rattle.oz_namespace.specs.declared.namespace.Bucket.{Bucket}
use Rattle.oz_namespace.specs.declared.namespace.Namespace.{Namespace}
use Rattle.oz_namespace.specs.declared.namespace.Session.{Session}
use Rattle.oz_namespace.specs.Namespace.{ByName, bucket_of, buckets_of, pieces_of, session_of, sixteen, snapshots_in, snapshots_of}
use Rattle.oz_rows.specs.declared.key.RowKey.TheVariants as keys
use Rattle.oz_rows.specs.declared.row.Row.TheVariants as rows
use Rattle.oz_rows.specs.RowMaps.{Rows}
use Rattle.oz_sound.specs.StandsFor.{SessionStands, SnapshotsStand, StandsFor, drawn_in, pieces_in}
use Rattle.oz_sound.specs.laws.Oneness.{one_namespace}
use Rattle.oz_loaded.specs.standing.Standing.{BucketIs, IsBucketOf, VolumeIs, VolumesAre}

module _ (all : Rows) (other made : Namespace) (it : StandsFor all other) (volumes : VolumesAre all made.volumes) (drawn : made.stripes ≡ map (λ n. drawn_in (all (keys.Stripe n))) sixteen) where
  no_value : {A : Type 0} (o : Option A) → is_some o ≡ false → o ≡ None
  no_value None e = refl
  no_value (Some a) e = absurd (false≢true (sym e))

  -- a bucket is as the rows have it, or in neither
  abbrev Is : List ℕ → List ℕ → Type 0
  Is v b = ((bucket : Bucket) × (bucket_of made v b ≡ Some bucket) × IsSome (all (keys.Bucket v b)) × IsBucketOf all v b bucket)
      ⊎ ((bucket_of made v b ≡ None) × (bucket_of other v b ≡ None))

  each : (v b : List ℕ) → Is v b
  each v b = by (buckets_of made v) refl (volumes v)
    where
      in_volume : (buckets : ByName Bucket) → buckets_of made v ≡ Some buckets → (o : Option Bucket) → get buckets b ≡ o → BucketIs all v b o → Is v b
      in_volume buckets has None is e = inr (
        ap (option_and_then (λ (buckets : ByName Bucket). get buckets b)) has ∙ is,
        no_value (bucket_of other v b) (it.buckets v b ∙ ap is_some e),
      )
      in_volume buckets has (Some bucket) is there = inl (bucket, ap (option_and_then (λ (buckets : ByName Bucket). get buckets b)) has ∙ is, there.0, there.1)

      by : (o : Option (ByName Bucket)) → buckets_of made v ≡ o → VolumeIs all v o → Is v b
      by None is e = inr (
        ap (option_and_then (λ (buckets : ByName Bucket). get buckets b)) is,
        ap (option_and_then (λ (buckets : ByName Bucket). get buckets b)) (no_value (buckets_of other v) (it.volumes v ∙ ap is_some e)),
      )
      by (Some buckets) is there = in_volume buckets is (get buckets b) refl (there.1 b)

  volumes_stand : (v : List ℕ) (o : Option (ByName Bucket)) → VolumeIs all v o → is_some o ≡ is_some (all (keys.Volume v))
  volumes_stand v None e = sym (ap is_some e)
  volumes_stand v (Some buckets) there = sym there.0

  buckets_stand : (v b : List ℕ) → Is v b → is_some (bucket_of made v b) ≡ is_some (all (keys.Bucket v b))
  buckets_stand v b (inl (bucket, is, some, of)) = ap is_some is ∙ sym some
  buckets_stand v b (inr (is, none)) = ap is_some is ∙ sym (ap is_some none) ∙ it.buckets v b

  pieces_stand : (v b k : List ℕ) → Is v b → pieces_of made v b k ≡ pieces_in (all (keys.Key v b k))
  pieces_stand v b k (inl (bucket, is, some, of)) = ap (option_and_then (λ (b : Bucket). get b.keys k)) is ∙ of.keys_are k
  pieces_stand v b k (inr (is, none)) = ap (option_and_then (λ (b : Bucket). get b.keys k)) (is ∙ sym none) ∙ it.pieces v b k

  abbrev number_in : ℕ → Option Bucket → Option Session
  number_in n bucket = option_and_then (λ (b : Bucket). get b.sessions n) bucket

  one_session : (v b : List ℕ) (n : ℕ) (s : Session) (bucket : Bucket) → IsBucketOf all v b bucket → all (keys.Open v b s.key n) ≡ Some (rows.Open s.blocks) → get bucket.sessions n ≡ Some s
  one_session v b n s bucket of row = by (get bucket.sessions n) refl (of.rows_have_sessions s.key n s.blocks row)
    where
      by : (o : Option Session) → get bucket.sessions n ≡ o → IsSome o → get bucket.sessions n ≡ Some s
      by None is some = absurd (false≢true some)
      by (Some t) is some = is ∙ sym ((it.sessions v b n t).1 (of.sessions_are_rows n t is)) ∙ (it.sessions v b n s).1 row

  sessions_stand : (v b : List ℕ) (n : ℕ) (s : Session) → Is v b → SessionStands all made v b n s
  sessions_stand v b n s (inl (bucket, is, some, of)) =
      let looked : session_of made v b n ≡ get bucket.sessions n = ap (number_in n) is in
      (λ e. of.sessions_are_rows n s (sym looked ∙ e), λ row. looked ∙ one_session v b n s bucket of row)
  sessions_stand v b n s (inr (is, none)) =
      let same : session_of made v b n ≡ session_of other v b n = ap (number_in n) (is ∙ sym none) in
      let both = it.sessions v b n s in
      (λ e. both.0 (sym same ∙ e), λ row. same ∙ both.1 row)

  snapshots_stand : (v b : List ℕ) → Is v b → SnapshotsStand all v b (snapshots_of made v b)
  snapshots_stand v b (inl (bucket, is, some, of)) = subst (SnapshotsStand all v b) (sym (ap snapshots_in is)) of.snapshots_stand
  snapshots_stand v b (inr (is, none)) = subst (SnapshotsStand all v b) (ap snapshots_in (none ∙ sym is)) (it.snapshots v b)

  stand : StandsFor all made
  stand = record {
    volumes = λ v. volumes_stand v (buckets_of made v) (volumes v);
    buckets = λ v b. buckets_stand v b (each v b);
    pieces = λ v b k. pieces_stand v b k (each v b);
    sessions = λ v b n s. sessions_stand v b n s (each v b);
    snapshots = λ v b. snapshots_stand v b (each v b);
    stripes = drawn;
  }

  pub the_one : made ≡ other
  the_one = one_namespace all made other stand it
