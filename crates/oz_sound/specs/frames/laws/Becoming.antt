-- What rows stand for as those of one bucket change.
use Rattle.std.proofs.Common.{◌≡◌, ◌≢◌, ◌↔◌, ℕ, Bool, true, false, ◌&&◌, List, [], ◌∷◌, Option, None, Some, is_some, cond, refl, sym, ◌∙◌, ap, subst, arith}
use mathlib.Core.Bool.{false≢true}
use Rattle.std.proofs.lemmas.Cmp.{nat_list_cmp_total}
use Rattle.std.proofs.lemmas.Option.{same_Some}
use Rattle.std.specs.FinMap.{get, insert, get-insert}
use Rattle.std.specs.Option.{option_and_then}
use Rattle.oz_namespace.specs.declared.namespace.Bucket.{Bucket}
use Rattle.oz_namespace.specs.declared.namespace.Namespace.{Namespace}
use Rattle.oz_namespace.specs.declared.namespace.Session.{Session}
use Rattle.oz_namespace.specs.declared.namespace.Snapshot.{Snapshot}
use Rattle.oz_namespace.specs.Namespace.{ByName, has_volume, has_bucket, buckets_of, bucket_of, pieces_of, snapshots_of, snapshots_in}
use Rattle.oz_rows.specs.declared.key.RowKey.{RowKey}
use Rattle.oz_rows.specs.declared.key.RowKey.TheVariants as keys
use Rattle.oz_rows.specs.declared.row.Row.TheVariants as rows
use Rattle.oz_rows.specs.Rows.{kind_of}
use Rattle.oz_rows.specs.RowMaps.{Rows}
use Rattle.oz_sound.specs.Sound.{bucket_of_row}
use Rattle.oz_sound.specs.StandsFor.{StandsFor, SessionStands, SnapshotsStand, AreSnapshots, IsSnapshot, pieces_in}
use Rattle.oz_sound.specs.laws.BucketChanges.{is_name, one_name, itself}
use Rattle.oz_sound.specs.frames.Buckets.{with_bucket, BucketBecomes}

abbrev path : List ℕ → List ℕ → List ℕ × List ℕ
path v b = (v, b)

-- two buckets of different names are different
apart : (volume name v b : List ℕ) → is_name v volume && is_name b name ≡ false → Some (path v b) ≡ Some (path volume name) → ⊥
apart volume name v b other same =
    let inside = same_Some (path v b) (path volume name) same in
    let first : v ≡ volume = ap (λ (p : List ℕ × List ℕ). p.0) inside in
    let second : b ≡ name = ap (λ (p : List ℕ × List ℕ). p.1) inside in
    false≢true (sym other ∙ (λ i. is_name (first i) volume && is_name (second i) name) ∙ ap (λ t. t && is_name name name) (itself volume) ∙ itself name)

no_bucket : (volume name : List ℕ) → None ≡ Some (path volume name) → ⊥
no_bucket volume name same = false≢true (ap is_some same)

module _ (all now : Rows) (namespace : Namespace) (volume : List ℕ) (buckets : ByName Bucket) (name : List ℕ) (bucket : Bucket) (stripes : List ℕ)
    (becomes : BucketBecomes all now namespace volume buckets name bucket stripes) (stands : StandsFor all namespace) where
  abbrev after : Namespace
  after = with_bucket namespace volume buckets name bucket stripes

  abbrev changed : ByName Bucket
  changed = insert buckets name bucket

  -- a row of another bucket is as it was
  elsewhere : (key : RowKey) (v b : List ℕ) → bucket_of_row key ≡ Some (path v b) → kind_of key ≢ 9 → is_name v volume && is_name b name ≡ false
      → now key ≡ all key
  elsewhere key v b of kind other = becomes.outside key (record { other = λ same. apart volume name v b other (sym of ∙ same); no_stripe = kind })

  volumes_now : (v : List ℕ) → buckets_of after v ≡ cond (is_name v volume) (Some changed) (buckets_of namespace v)
  volumes_now v = get-insert nat_list_cmp_total namespace.volumes volume changed v

  bucket_now : (v b : List ℕ) → bucket_of after v b ≡ cond (is_name v volume && is_name b name) (Some bucket) (bucket_of namespace v b)
  bucket_now v b = ap (option_and_then (λ (bs : ByName Bucket). get bs b)) (volumes_now v) ∙ by_test (is_name v volume) refl
    where
      by_test : (t : Bool) → is_name v volume ≡ t
          → option_and_then (λ (bs : ByName Bucket). get bs b) (cond t (Some changed) (buckets_of namespace v))
          ≡ cond (t && is_name b name) (Some bucket) (bucket_of namespace v b)
      by_test true e = get-insert nat_list_cmp_total buckets name bucket b
          ∙ ap (cond (is_name b name) (Some bucket))
          (sym (ap (option_and_then (λ (bs : ByName Bucket). get bs b)) (ap (buckets_of namespace) (one_name v volume e) ∙ becomes.volume_there)))
      by_test false e = refl

  -- what holds of the bucket and of each other one holds of each
  each : (P : List ℕ → List ℕ → Option Bucket → Type 0) → P volume name (Some bucket)
      → ((v b : List ℕ) → is_name v volume && is_name b name ≡ false → P v b (bucket_of namespace v b)) → (v b : List ℕ) → P v b (bucket_of after v b)
  each P here others v b = subst (P v b) (sym (bucket_now v b)) (by_test (is_name v volume) refl (is_name b name) refl)
    where
      by_test : (t : Bool) → is_name v volume ≡ t → (s : Bool) → is_name b name ≡ s → P v b (cond (t && s) (Some bucket) (bucket_of namespace v b))
      by_test true e true f =
          subst (λ w. P w b (Some bucket)) (sym (one_name v volume e)) (subst (λ c. P volume c (Some bucket)) (sym (one_name b name f)) here)
      by_test true e false f = others v b (ap (λ t. t && is_name b name) e ∙ f)
      by_test false e s f = others v b (ap (λ t. t && is_name b name) e)

  volume_row : (v : List ℕ) → has_volume after v ≡ is_some (now (keys.Volume v))
  volume_row v = ap is_some (volumes_now v) ∙ by_test (is_name v volume) refl ∙ stands.volumes v
      ∙ ap is_some (sym (becomes.outside (keys.Volume v) (record { other = no_bucket volume name; no_stripe = λ e. omega (arith, e) })))
    where
      by_test : (t : Bool) → is_name v volume ≡ t → is_some (cond t (Some changed) (buckets_of namespace v)) ≡ has_volume namespace v
      by_test true e = sym (ap is_some (ap (buckets_of namespace) (one_name v volume e) ∙ becomes.volume_there))
      by_test false e = refl

  bucket_row : (v b : List ℕ) → has_bucket after v b ≡ is_some (now (keys.Bucket v b))
  bucket_row = each (λ v b o. is_some o ≡ is_some (now (keys.Bucket v b)))
      (sym becomes.there)
      (λ v b other. stands.buckets v b ∙ ap is_some (sym (elsewhere (keys.Bucket v b) v b refl (λ e. omega (arith, e)) other)))

  key_pieces : (v b : List ℕ) → (key : List ℕ) → pieces_of after v b key ≡ pieces_in (now (keys.Key v b key))
  key_pieces = each (λ v b o. (key : List ℕ) → option_and_then (λ (x : Bucket). get x.keys key) o ≡ pieces_in (now (keys.Key v b key)))
      becomes.pieces
      (λ v b other key. stands.pieces v b key ∙ ap pieces_in (sym (elsewhere (keys.Key v b key) v b refl (λ e. omega (arith, e)) other)))

  all_sessions : (v b : List ℕ) → (number : ℕ) (session : Session) → SessionStands now after v b number session
  all_sessions = each (λ v b o. (number : ℕ) (session : Session)
      → (option_and_then (λ (x : Bucket). get x.sessions number) o ≡ Some session)
      ↔ (now (keys.Open v b session.key number) ≡ Some (rows.Open session.blocks)))
      becomes.sessions
      (λ v b other number session.
      let row = elsewhere (keys.Open v b session.key number) v b refl (λ e. omega (arith, e)) other in
      let iff = stands.sessions v b number session in
      (λ e. row ∙ iff.0 e, λ e. iff.1 (sym row ∙ e)))

  module _ (v b : List ℕ) (other : is_name v volume && is_name b name ≡ false) where
    snapshot_row : (number : ℕ) → now (keys.Snapshot v b number) ≡ all (keys.Snapshot v b number)
    snapshot_row number = elsewhere (keys.Snapshot v b number) v b refl (λ e. omega (arith, e)) other

    snapshot_again : (number : ℕ) (snapshot : Snapshot) → IsSnapshot all v b number snapshot → IsSnapshot now v b number snapshot
    snapshot_again number snapshot is = record {
      previous = is.previous;
      row = snapshot_row number ∙ is.row;
      pieces = λ key. is.pieces key ∙ ap pieces_in (sym (elsewhere (keys.SnapshotKey v b number key) v b refl (λ e. omega (arith, e)) other));
    }

    snapshots_again : (numbers : List ℕ) (snapshots : List Snapshot) → AreSnapshots all v b numbers snapshots → AreSnapshots now v b numbers snapshots
    snapshots_again [] [] are = tt
    snapshots_again (n ∷ numbers) (s ∷ snapshots) are = (snapshot_again n s are.0, snapshots_again numbers snapshots are.1)
    snapshots_again [] (s ∷ snapshots) are = are
    snapshots_again (n ∷ numbers) [] are = are

    stand_again : (snapshots : List Snapshot) → SnapshotsStand all v b snapshots → SnapshotsStand now v b snapshots
    stand_again snapshots stand = record {
      numbers = stand.numbers;
      rise = stand.rise;
      every = λ number live. stand.every number (live.0, live.1, sym (snapshot_row number) ∙ live.2);
      each = snapshots_again stand.numbers snapshots stand.each;
    }

  all_snapshots : (v b : List ℕ) → SnapshotsStand now v b (snapshots_of after v b)
  all_snapshots = each (λ v b o. SnapshotsStand now v b (snapshots_in o))
      becomes.snapshots
      (λ v b other. stand_again v b other _ (stands.snapshots v b))

  pub bucket_becomes : StandsFor now (with_bucket namespace volume buckets name bucket stripes)
  bucket_becomes = record {
    volumes = volume_row;
    buckets = bucket_row;
    pieces = λ v b key. key_pieces v b key;
    sessions = λ v b number session. all_sessions v b number session;
    snapshots = all_snapshots;
    stripes = becomes.numbers;
  }
