-- What rows stand for where rows of one bucket changed: its keys, its sessions and its deleted rows.
use Rattle.std.proofs.Common.{◌≡◌, ◌↔◌, ℕ, Bool, true, false, List, [], ◌∷◌, Option, Some, IsSome, cond, refl, sym, ◌∙◌, ap, subst}
use Rattle.std.specs.FinMap.{get, insert}
use Rattle.std.specs.List.{AllByRecursion}
use Rattle.oz_namespace.specs.declared.namespace.Bucket.{Bucket}
use Rattle.oz_namespace.specs.declared.namespace.Namespace.{Namespace}
use Rattle.oz_namespace.specs.declared.namespace.Session.{Session}
use Rattle.oz_namespace.specs.Namespace.{sixteen, buckets_of, bucket_of, with_volume, snapshots_of}
use Rattle.oz_model.specs.Buckets.{buckets_at, bucket_at}
use Rattle.oz_rows.specs.declared.key.RowKey.{RowKey}
use Rattle.oz_rows.specs.declared.key.RowKey.TheVariants as keys
use Rattle.oz_rows.specs.declared.operation.Change.{Change}
use Rattle.oz_rows.specs.declared.row.Row.{Row}
use Rattle.oz_rows.specs.declared.row.Row.TheVariants as rows
use Rattle.oz_rows.specs.RowMaps.{Rows, is_same, row_after}
use Rattle.oz_rows.specs.laws.Same.{same_is_one}
use Rattle.oz_sound.specs.Sound.{bucket_of_row, IsSoundButRenames}
use Rattle.oz_sound.specs.StandsFor.{StandsFor, SnapshotsStand, pieces_in}
use Rattle.oz_decision.specs.Meets.{Stand}
use Rattle.oz_decision.specs.laws.Lookups.{there_are}
use Rattle.oz_sound.specs.frames.Buckets.{IsOutside}
use Rattle.oz_sound.specs.frames.laws.Becoming.{bucket_becomes}
use Rattle.oz_decision.specs.laws.Shown.{snapshots_again, snapshots_of_bucket, volume_there, stripes_again}

-- rows of other buckets are as they were
pub outside : (v b : List ℕ) (changes : List Change) → AllByRecursion (λ (change : Change). bucket_of_row change.key ≡ Some (v, b)) changes → (key : RowKey) → IsOutside v b key → (row : Option Row) → row_after changes key row ≡ row
outside v b [] inside key is row = refl
outside v b (change ∷ changes) inside key is row = by_test (is_same change.key key) refl ∙ outside v b changes inside.1 key is row
  where
    by_test : (t : Bool) → is_same change.key key ≡ t → row_after changes key (cond (is_same change.key key) change.row row) ≡ row_after changes key row
    by_test false e = ap (λ (t : Bool). row_after changes key (cond t change.row row)) e
    by_test true e = absurd (is.other (sym (ap bucket_of_row (same_is_one change.key key e)) ∙ inside.0))

-- rows in which one bucket has become another
pub record Becomes (all now : Rows) (namespace : Namespace) (v b : List ℕ) (bucket : Bucket) : Type 0 where
  pub bucket_row : now (keys.Bucket v b) ≡ all (keys.Bucket v b)
  pub others : (key : RowKey) → IsOutside v b key → now key ≡ all key
  pub pieces : (q : List ℕ) → get bucket.keys q ≡ pieces_in (now (keys.Key v b q))
  pub sessions : (m : ℕ) (s : Session) → (get bucket.sessions m ≡ Some s) ↔ (now (keys.Open v b s.key m) ≡ Some (rows.Open s.blocks))
  pub snapshots : bucket.snapshots ≡ (bucket_at namespace v b).snapshots
  pub snapshot_rows : (w c : List ℕ) (n : ℕ) → now (keys.Snapshot w c n) ≡ all (keys.Snapshot w c n)
  pub snapshot_keys : (w c : List ℕ) (n : ℕ) (k : List ℕ) → now (keys.SnapshotKey w c n k) ≡ all (keys.SnapshotKey w c n k)
  pub stripes : (n : ℕ) → now (keys.Stripe n) ≡ all (keys.Stripe n)

pub becomes_bucket : (all now : Rows) (namespace : Namespace) (v b : List ℕ) (bucket : Bucket) → Stand IsSoundButRenames all namespace → IsSome (all (keys.Bucket v b)) → Becomes all now namespace v b bucket → StandsFor now (with_volume namespace v (insert (buckets_at namespace v) b bucket))
becomes_bucket all now namespace v b bucket stand there is =
    let volume = there_are (buckets_of namespace v) (volume_there (buckets_of namespace v) b (stand.stands.buckets v b ∙ there)) in
    let shown : bucket.snapshots ≡ snapshots_of namespace v b = is.snapshots ∙ snapshots_of_bucket (bucket_of namespace v b) in
    bucket_becomes all now namespace v (buckets_at namespace v) b bucket namespace.stripes (record {
      volume_there = volume;
      outside = is.others;
      there = subst IsSome (sym is.bucket_row) there;
      pieces = is.pieces;
      sessions = is.sessions;
      snapshots = subst (SnapshotsStand now v b) (sym shown) (snapshots_again all now is.snapshot_rows is.snapshot_keys v b (snapshots_of namespace v b) (stand.stands.snapshots v b));
      numbers = stand.stands.stripes ∙ stripes_again all now is.stripes sixteen;
    }) stand.stands
