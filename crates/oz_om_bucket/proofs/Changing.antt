-- What stands where the row of one volume or of one bucket changed, and no other.
use Rattle.std.proofs.Common.{◌≡◌, ◌<◌, ◌≤◌, ℕ, Bool, true, false, not, List, [], Option, None, Some, IsSome, is_some, cond, refl, sym, ◌∙◌, ap, arith}
use mathlib.Core.Bool.{false≢true}
use Rattle.std.proofs.lemmas.Cmp.{nat_list_cmp_total}
use Rattle.std.specs.Ordering.{nat_cmp, is_eq}
use Rattle.std.specs.Cmp.Lexicographic.{slice_cmp}
use Rattle.std.specs.List.{list_any}
use Rattle.std.specs.FinMap.{len, keys as keys_in, contains_key-keys, get, insert, remove, empty, get-insert}
use Rattle.std.specs.Option.{option_and_then}
use Rattle.oz_fields.specs.declared.block.Block.{Block}
use Rattle.oz_namespace.specs.declared.namespace.Bucket.{Bucket}
use Rattle.oz_namespace.specs.declared.namespace.Namespace.{Namespace}
use Rattle.oz_namespace.specs.Namespace.{ByName, has_bucket, buckets_of, with_volume, without_volume, new_bucket}
use Rattle.oz_model.specs.Buckets.{buckets_at}
use Rattle.oz_requests.specs.declared.request.Request.{Request}
use Rattle.oz_requests.specs.declared.request.Request.TheVariants.{CreateVolume, DeleteVolume, CreateBucket, DeleteBucket}
use Rattle.oz_rows.specs.declared.key.RowKey.{RowKey}
use Rattle.oz_rows.specs.declared.key.RowKey.TheVariants as keys
use Rattle.oz_rows.specs.declared.row.Row.{Row}
use Rattle.oz_rows.specs.declared.row.Row.TheVariants as rows
use Rattle.oz_rows.specs.laws.Lengths.{no_longer}
use Rattle.oz_rows.specs.Rows.{ValueFits, kind_of}
use Rattle.oz_rows.specs.RowMaps.{after_changes, Rows}
use Rattle.oz_sound.specs.Kept.{KeepsBlocks}
use Rattle.oz_sound.specs.Sound.{blocks_of, AtMost, IsHome, IsSoundButRenames, RenamesAreSound}
use Rattle.oz_sound.specs.StandsFor.{StandsFor}
use Rattle.oz_sound.specs.laws.BucketRows.{renames_again, but_renames_again}
use Rattle.oz_sound.specs.laws.BucketChanges.{is_name, one_name, itself}
use Rattle.oz_decision.specs.Meets.{AreInGrammar}
use Rattle.oz_decision.specs.laws.OneRow.{homes_kept}
use Rattle.oz_decision.specs.laws.Rising.{each_in_turn, len_keys}
use Rattle.oz_om_bucket.specs.Records.{changes_for}

pub some_apart : {A : Type 0} {a : A} → Some a ≡ None → ⊥
some_apart e = false≢true (sym (ap is_some e))

pub not_false : (t : Bool) → not t ≡ false → t ≡ true
not_false true e = refl
not_false false e = absurd (false≢true (sym e))

-- what each request leaves that isn't refused
abbrev pub effect_of : Namespace → Request → Namespace
effect_of namespace (CreateVolume v) = with_volume namespace v empty
effect_of namespace (DeleteVolume v) = without_volume namespace v
effect_of namespace (CreateBucket v b) = with_volume namespace v (insert (buckets_at namespace v) b new_bucket)
effect_of namespace (DeleteBucket v b) = with_volume namespace v (remove (buckets_at namespace v) b)
effect_of namespace request = namespace

-- what a request that isn't refused does to rows and to the namespace for which they stand
pub record Does (all : Rows) (namespace : Namespace) (request : Request) : Type 0 where
  pub stands : StandsFor (after_changes (changes_for request) all) (effect_of namespace request)
  pub few : (v : List ℕ) → AtMost 1024 (λ b. IsSome (after_changes (changes_for request) all (keys.Bucket v b)))
  pub keeps : effect_of namespace request ≡ namespace → changes_for request ≡ []

-- rows of volumes and buckets have no blocks
bare_row : (key : RowKey) (row : Row) → kind_of key ≤ 2 → ValueFits key row → blocks_of row ≡ []
bare_row (keys.Volume v) rows.Volume low fits = refl
bare_row (keys.Volume v) row low fits = absurd fits
bare_row (keys.Bucket v b) rows.Bucket low fits = refl
bare_row (keys.Bucket v b) row low fits = absurd fits
bare_row (keys.Key v b k) row low fits = absurd (omega arith)
bare_row (keys.Open v b k n) row low fits = absurd (omega arith)
bare_row (keys.Deleted v b o k l) row low fits = absurd (omega arith)
bare_row (keys.Snapshot v b n) row low fits = absurd (omega arith)
bare_row (keys.SnapshotKey v b n k) row low fits = absurd (omega arith)
bare_row (keys.Renamed v b o l) row low fits = absurd (omega arith)
bare_row (keys.Stripe s) row low fits = absurd (omega arith)

-- the homes of blocks are rows of other kinds
home_kind : (key : RowKey) → IsHome key → 2 < kind_of key
home_kind (keys.Key v b k) home = omega arith
home_kind (keys.Open v b k n) home = omega arith
home_kind (keys.Deleted v b o k l) home = omega arith
home_kind key home = absurd home

module _ (all now : Rows) (agree : (key : RowKey) → 2 < kind_of key → now key ≡ all key) where
  pub blocks_stay : (granted : Option Block) (Gone : Block → Type 0) → KeepsBlocks all now granted Gone
  blocks_stay granted Gone = homes_kept all now granted Gone (λ key home. agree key (home_kind key home))

  module _ (fit : AreInGrammar all) (fit_now : AreInGrammar now) where
    pub renames_stay : RenamesAreSound all → RenamesAreSound now
    renames_stay = renames_again all now agree (λ key row low e. bare_row key row low (fit key row e).1) (λ key row low e. bare_row key row low (fit_now key row e).1)

    pub stay_sound : ((v : List ℕ) → AtMost 1024 (λ b. IsSome (now (keys.Bucket v b)))) → IsSoundButRenames all → IsSoundButRenames now
    stay_sound = but_renames_again all now agree (λ key row low e. bare_row key row low (fit key row e).1) (λ key row low e. bare_row key row low (fit_now key row e).1)

-- where a bucket comes or goes
module _ (namespace : Namespace) (v b : List ℕ) (changed : ByName Bucket) (new : Option Bucket) (gets : (q : List ℕ) → get changed q ≡ cond (is_name q b) new (get (buckets_at namespace v) q)) where
  -- the volume has it, or none of its name
  bucket_is : has_bucket (with_volume namespace v changed) v b ≡ is_some new
  bucket_is =
      ap (λ (o : Option (ByName Bucket)). is_some (option_and_then (λ buckets. get buckets b) o)) (get-insert nat_list_cmp_total namespace.volumes v changed v ∙ ap (λ (t : Bool). cond t (Some changed) (buckets_of namespace v)) (itself v))
      ∙ ap is_some (gets b ∙ ap (λ (t : Bool). cond t new (get (buckets_at namespace v) b)) (itself b))

  -- so the namespace isn't what it was
  pub differs : (had : Bool) → has_bucket namespace v b ≡ had → with_volume namespace v changed ≡ namespace → is_some new ≡ had
  differs had had_is e = sym bucket_is ∙ ap (λ (n : Namespace). has_bucket n v b) e ∙ had_is

-- the rows of a volume's buckets are as many as its buckets
pub few_rows : (now : Rows) (after : Namespace) → StandsFor now after → (v : List ℕ) (buckets : ByName Bucket) → buckets_of after v ≡ Some buckets → len buckets ≤ 1024 → AtMost 1024 (λ q. IsSome (now (keys.Bucket v q)))
few_rows now after stands v buckets there few items differ some =
    let member : (q : List ℕ) → IsSome (now (keys.Bucket v q)) → list_any (is_name q) (keys_in buckets) ≡ true = λ q is.
    sym (contains_key-keys buckets q) ∙ sym (ap (λ (o : Option (ByName Bucket)). is_some (option_and_then (λ buckets. get buckets q) o)) there) ∙ stands.buckets v q ∙ is in
    let size = no_longer is_name one_name items (keys_in buckets) differ (each_in_turn _ _ member items some) in
    omega (arith, size, len_keys (slice_cmp nat_cmp) nat_list_cmp_total (λ x y e. one_name x y (ap is_eq e)) buckets, few)
