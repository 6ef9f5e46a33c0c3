-- Rows go on standing for a namespace as volumes come and go.
use Rattle.std.proofs.Common.{◌≡◌, ◌≢◌, ℕ, Bool, true, false, List, [], ◌∷◌, map, Option, None, Some, is_some, cond}
use Rattle.std.proofs.Common.{refl, sym, ◌∙◌, ap, subst, arith}
use mathlib.Core.Bool.{false≢true}
use Rattle.std.proofs.lemmas.Cmp.{nat_list_cmp_total, eq_by_cmp_equiv}
use Rattle.std.specs.Ordering.{nat_cmp, is_eq, eq_by_cmp, ordering_then}
use Rattle.std.specs.declared.cmp.Ordering.{Ordering}
use Rattle.std.specs.declared.cmp.Ordering.TheVariants.{Less, Equal, Greater}
use Rattle.std.specs.Cmp.Lexicographic.{slice_cmp}
use Rattle.std.specs.FinMap.{get, empty, get-insert, get-empty, get_tied}
use Rattle.std.specs.Option.{option_and_then}
use Rattle.oz_namespace.specs.declared.namespace.Bucket.{Bucket}
use Rattle.oz_namespace.specs.declared.namespace.Namespace.{Namespace}
use Rattle.oz_namespace.specs.declared.namespace.Session.{Session}
use Rattle.oz_namespace.specs.declared.namespace.Snapshot.{Snapshot}
use Rattle.oz_namespace.specs.Namespace.{ByName, nothing, sixteen, has_volume, bucket_of, buckets_of, with_volume}
use Rattle.oz_namespace.specs.Namespace.{snapshots_in}
use Rattle.oz_rows.specs.declared.key.RowKey.{RowKey}
use Rattle.oz_rows.specs.declared.key.RowKey.TheVariants as keys
use Rattle.oz_rows.specs.declared.row.Row.TheVariants as rows
use Rattle.oz_rows.specs.Rows.{kind_of}
use Rattle.oz_rows.specs.RowMaps.{Rows, is_same, row_of, row_after, put}
use Rattle.oz_rows.specs.laws.Order.{equal_from_test}
use Rattle.oz_sound.specs.StandsFor.{StandsFor, SessionStands, SnapshotsStand, AreSnapshots, IsSnapshot, IsLive}
use Rattle.oz_sound.specs.StandsFor.{pieces_in, drawn_in}

-- rows that are the same but for those of volumes
module _ (all now : Rows) (agree : (key : RowKey) → kind_of key ≢ 1 → now key ≡ all key) where
  snapshot_again : (volume bucket : List ℕ) (number : ℕ) (snapshot : Snapshot) → IsSnapshot all volume bucket number snapshot
      → IsSnapshot now volume bucket number snapshot
  snapshot_again volume bucket number snapshot is = record {
    previous = is.previous;
    row = agree (keys.Snapshot volume bucket number) (λ e. omega (arith, e)) ∙ is.row;
    pieces = λ key. is.pieces key ∙ ap pieces_in (sym (agree (keys.SnapshotKey volume bucket number key) (λ e. omega (arith, e))));
  }

  snapshots_again : (volume bucket numbers : List ℕ) (snapshots : List Snapshot) → AreSnapshots all volume bucket numbers snapshots
      → AreSnapshots now volume bucket numbers snapshots
  snapshots_again volume bucket [] [] are = tt
  snapshots_again volume bucket (n ∷ numbers) (s ∷ snapshots) are =
      (snapshot_again volume bucket n s are.0, snapshots_again volume bucket numbers snapshots are.1)
  snapshots_again volume bucket [] (s ∷ snapshots) are = are
  snapshots_again volume bucket (n ∷ numbers) [] are = are

  live_before : (volume bucket : List ℕ) (number : ℕ) → IsLive now volume bucket number → IsLive all volume bucket number
  live_before volume bucket number (name, previous, row) = (name, previous, sym (agree (keys.Snapshot volume bucket number) (λ e. omega (arith, e))) ∙ row)

  stand_again : (volume bucket : List ℕ) (snapshots : List Snapshot) → SnapshotsStand all volume bucket snapshots → SnapshotsStand now volume bucket snapshots
  stand_again volume bucket snapshots stand = record {
    numbers = stand.numbers;
    rise = stand.rise;
    every = λ number live. stand.every number (live_before volume bucket number live);
    each = snapshots_again volume bucket stand.numbers snapshots stand.each;
  }

  -- a namespace with the same buckets and numbers, and the volumes that the rows have
  module _ (before after : Namespace) (same : (volume bucket : List ℕ) → bucket_of after volume bucket ≡ bucket_of before volume bucket)
      (numbers : after.stripes ≡ before.stripes) (volumes : (volume : List ℕ) → has_volume after volume ≡ is_some (now (keys.Volume volume)))
      (stands : StandsFor all before) where
    session_again : (volume bucket : List ℕ) (number : ℕ) (session : Session) → SessionStands now after volume bucket number session
    session_again volume bucket number session =
        let of_bucket = ap (option_and_then (λ (b : Bucket). get b.sessions number)) (same volume bucket) in
        let row = agree (keys.Open volume bucket session.key number) (λ e. omega (arith, e)) in
        let iff = stands.sessions volume bucket number session in
        (λ e. row ∙ iff.0 (sym of_bucket ∙ e), λ e. of_bucket ∙ iff.1 (sym row ∙ e))

    stripes_again : (l : List ℕ) → map (λ stripe. drawn_in (all (keys.Stripe stripe))) l ≡ map (λ stripe. drawn_in (now (keys.Stripe stripe))) l
    stripes_again [] = refl
    stripes_again (s ∷ l) =
        ap (λ n. n ∷ map (λ stripe. drawn_in (all (keys.Stripe stripe))) l) (ap drawn_in (sym (agree (keys.Stripe s) (λ e. omega (arith, e)))))
        ∙ ap (λ l. drawn_in (now (keys.Stripe s)) ∷ l) (stripes_again l)

    pub stands_again : StandsFor now after
    stands_again = record {
      volumes = volumes;
      buckets = λ v b. ap is_some (same v b) ∙ stands.buckets v b ∙ ap is_some (sym (agree (keys.Bucket v b) (λ e. omega (arith, e))));
      pieces = λ v b k. ap (option_and_then (λ (bucket : Bucket). get bucket.keys k)) (same v b) ∙ stands.pieces v b k
          ∙ ap pieces_in (sym (agree (keys.Key v b k) (λ e. omega (arith, e))));
      sessions = session_again;
      snapshots = λ v b. stand_again v b _ (subst (SnapshotsStand all v b) (ap snapshots_in (sym (same v b))) (stands.snapshots v b));
      stripes = numbers ∙ stands.stripes ∙ stripes_again sixteen;
    }

abbrev is_name : List ℕ → List ℕ → Bool
is_name a b = eq_by_cmp (slice_cmp nat_cmp) a b

tied : (o : Ordering) → is_eq (ordering_then o Equal) ≡ is_eq o
tied Less = refl
tied Equal = refl
tied Greater = refl

-- volume rows are the same where the names are
same_volume : (a b : List ℕ) → is_same (keys.Volume a) (keys.Volume b) ≡ is_name b a
same_volume a b = tied (slice_cmp nat_cmp a b) ∙ (eq_by_cmp_equiv nat_list_cmp_total).symm a b

-- a volume without buckets has none, as one that isn't there
bucket_made : (namespace : Namespace) (volume : List ℕ) → buckets_of namespace volume ≡ None → (other bucket : List ℕ)
    → bucket_of (with_volume namespace volume empty) other bucket ≡ bucket_of namespace other bucket
bucket_made namespace volume absent other bucket =
    ap (option_and_then (λ (buckets : ByName Bucket). get buckets bucket)) (get-insert nat_list_cmp_total namespace.volumes volume empty other)
    ∙ by_test (is_name other volume) refl
  where
    by_test : (t : Bool) → is_name other volume ≡ t
        → option_and_then (λ (buckets : ByName Bucket). get buckets bucket) (cond (is_name other volume) (Some empty) (buckets_of namespace other))
        ≡ bucket_of namespace other bucket
    by_test true e =
        let there = get_tied nat_list_cmp_total namespace.volumes other volume (equal_from_test _ e) in
        ap (λ (t : Bool). option_and_then (λ (buckets : ByName Bucket). get buckets bucket) (cond t (Some empty) (buckets_of namespace other))) e
        ∙ get-empty (slice_cmp nat_cmp) bucket
        ∙ ap (option_and_then (λ (buckets : ByName Bucket). get buckets bucket)) (sym absent ∙ there)
    by_test false e = ap (λ (t : Bool). option_and_then (λ (buckets : ByName Bucket). get buckets bucket) (cond t (Some empty) (buckets_of namespace other))) e

volume_made : (namespace : Namespace) (volume other : List ℕ)
    → has_volume (with_volume namespace volume empty) other ≡ cond (is_name other volume) true (has_volume namespace other)
volume_made namespace volume other = ap is_some (get-insert nat_list_cmp_total namespace.volumes volume empty other) ∙ by_test (is_name other volume)
  where
    by_test : (t : Bool) → is_some (cond t (Some empty) (buckets_of namespace other)) ≡ cond t true (has_volume namespace other)
    by_test true = refl
    by_test false = refl

-- the rows after a volume's row was put
abbrev pub with_row : Rows → List ℕ → Rows
with_row all volume key = row_after (put (keys.Volume volume) rows.Volume ∷ []) key (all key)

row_kept : (all : Rows) (volume : List ℕ) (key : RowKey) → kind_of key ≢ 1 → with_row all volume key ≡ all key
row_kept all volume (keys.Volume other) kind = absurd (kind refl)
row_kept all volume (keys.Bucket v b) kind = refl
row_kept all volume (keys.Key v b k) kind = refl
row_kept all volume (keys.Open v b k n) kind = refl
row_kept all volume (keys.Deleted v b o k l) kind = refl
row_kept all volume (keys.Snapshot v b n) kind = refl
row_kept all volume (keys.SnapshotKey v b n k) kind = refl
row_kept all volume (keys.Renamed v b o l) kind = refl
row_kept all volume (keys.Stripe s) kind = refl

row_put : (all : Rows) (volume other : List ℕ)
    → is_some (with_row all volume (keys.Volume other)) ≡ cond (is_name other volume) true (is_some (all (keys.Volume other)))
row_put all volume other = by_test (is_same (keys.Volume volume) (keys.Volume other))
    ∙ ap (λ (t : Bool). cond t true (is_some (all (keys.Volume other)))) (same_volume volume other)
  where
    by_test : (t : Bool) → is_some (cond t (Some rows.Volume) (all (keys.Volume other))) ≡ cond t true (is_some (all (keys.Volume other)))
    by_test true = refl
    by_test false = refl

absent_from_test : {A : Type 0} (o : Option A) → is_some o ≡ false → o ≡ None
absent_from_test None e = refl
absent_from_test (Some a) e = absurd (false≢true (sym e))

-- a volume that wasn't there is made by its row
pub makes_a_volume : (all now : Rows) (namespace : Namespace) (volume : List ℕ) → StandsFor all namespace → has_volume namespace volume ≡ false
    → ((key : RowKey) → now key ≡ with_row all volume key) → StandsFor now (with_volume namespace volume empty)
makes_a_volume all now namespace volume stands absent is =
    stands_again all now (λ key kind. is key ∙ row_kept all volume key kind) namespace (with_volume namespace volume empty)
    (bucket_made namespace volume (absent_from_test _ absent)) refl
    (λ other. volume_made namespace volume other ∙ ap (cond (is_name other volume) true) (stands.volumes other) ∙ sym (row_put all volume other)
    ∙ ap is_some (sym (is (keys.Volume other))))
    stands

-- no rows stand for the empty namespace
pub nothing_stands : StandsFor (row_of []) nothing
nothing_stands = record {
  volumes = λ v. ap is_some (get-empty (slice_cmp nat_cmp) v);
  buckets = λ v b. ap (λ (o : Option (ByName Bucket)). is_some (option_and_then (λ (buckets : ByName Bucket). get buckets b) o))
      (get-empty (slice_cmp nat_cmp) v);
  pieces = λ v b k. ap (option_and_then (λ (bucket : Bucket). get bucket.keys k)) (no_bucket v b);
  sessions = λ v b n s. (
    λ e. absurd (some_apart (sym e ∙ ap (option_and_then (λ (bucket : Bucket). get bucket.sessions n)) (no_bucket v b))),
    λ e. absurd (some_apart (sym e)),
  );
  snapshots = λ v b. subst (SnapshotsStand (row_of []) v b) (ap snapshots_in (sym (no_bucket v b)))
      (record { numbers = []; rise = tt; every = λ n live. absurd (some_apart (sym live.2)); each = tt });
  stripes = refl;
}
  where
    some_apart : {A : Type 0} {a : A} → Some a ≡ None → ⊥
    some_apart e = false≢true (sym (ap is_some e))

    no_bucket : (v b : List ℕ) → bucket_of nothing v b ≡ None
    no_bucket v b = ap (option_and_then (λ (buckets : ByName Bucket). get buckets b)) (get-empty (slice_cmp nat_cmp) v)
