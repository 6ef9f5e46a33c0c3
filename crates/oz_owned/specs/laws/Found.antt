-- A block that a namespace reaches has a home in the bucket that it is reached in.
use Rattle.std.proofs.Common.{◌≡◌, ⊎_elim, ℕ, zero, suc, ◌<◌, Bool, true, false, ◌&&◌, ◌==◌, List, [], ◌∷◌, length}
use Rattle.std.proofs.Common.{map, Option, None, Some, Contains, cond, refl, sym, ◌∙◌, ap, subst, arith}
use Rattle.std.proofs.lemmas.Bool.{eq-eqb, eqb-true}
use Rattle.std.proofs.lemmas.List.Folds.{list_any-from_Any}
use Rattle.std.proofs.lemmas.Option.{none-some}
use Rattle.std.specs.FinMap.{get}
use Rattle.std.specs.List.{list_any, slice_index_or}
use Rattle.std.specs.Option.{option_and_then}
use Rattle.oz_fields.specs.declared.block.Block.{Block}
use Rattle.oz_fields.specs.declared.block.Piece.{Piece}
use Rattle.oz_model.specs.Reach.{IsReached, InKeys, InSessions, InSnapshots}
use Rattle.oz_names.specs.Names.{stripe_of}
use Rattle.oz_namespace.specs.declared.namespace.Bucket.{Bucket}
use Rattle.oz_namespace.specs.declared.namespace.Namespace.{Namespace}
use Rattle.oz_namespace.specs.declared.namespace.Snapshot.{Snapshot}
use Rattle.oz_namespace.specs.Namespace.{snapshots_in, bucket_of}
use Rattle.oz_rows.specs.declared.key.RowKey.{RowKey}
use Rattle.oz_rows.specs.declared.key.RowKey.TheVariants as keys
use Rattle.oz_rows.specs.declared.row.Row.{Row}
use Rattle.oz_rows.specs.declared.row.Row.TheVariants as rows
use Rattle.oz_rows.specs.RowMaps.{is_block, Rows}
use Rattle.oz_sound.specs.frames.Moves.{StoodIn}
use Rattle.oz_sound.specs.Sound.{BlocksAreSound, IsKeeper, IsHome, StandsIn, blocks_of, bucket_of_row}
use Rattle.oz_sound.specs.StandsFor.{StandsFor, AreSnapshots, IsSnapshot, pieces_in}
use Rattle.oz_sound.specs.stripes.Stripes.{is_own, only, stripe_of_key}

itself : (block : Block) → is_block block block ≡ true
itself block = ap (λ (b : Bool). b && block.local == block.local) (eq-eqb block.container block.container refl) ∙ eq-eqb block.local block.local refl

-- and a block that it names is in its list
pub among : (block : Block) (blocks : List Block) → Contains blocks block → list_any (is_block block) blocks ≡ true
among block blocks there = list_any-from_Any (is_block block) blocks (there.0, block, there.1, there.2, itself block)

-- the row that has pieces has their blocks
its_blocks : (row : Option Row) (pieces : List Piece) → Some pieces ≡ pieces_in row → (block : Block)
    → Contains (map (λ (piece : Piece). piece.block) pieces) block → (found : Row) × (row ≡ Some found) × (list_any (is_block block) (blocks_of found) ≡ true)
its_blocks None pieces is block there = absurd (cc)
its_blocks (Some (rows.Key number of)) pieces is block there = (
  rows.Key number of,
  refl,
  among block (blocks_of (rows.Key number of))
      (subst (λ (o : List Piece). Contains (map (λ (piece : Piece). piece.block) o) block) (cc) there),
)
its_blocks (Some (rows.SnapshotKey number of)) pieces is block there = (
  rows.SnapshotKey number of,
  refl,
  among block (blocks_of (rows.SnapshotKey number of))
      (subst (λ (o : List Piece). Contains (map (λ (piece : Piece). piece.block) o) block) (cc) there),
)
its_blocks (Some row) pieces is block there = absurd (cc)

stands : (all : Rows) (key : RowKey) (pieces : List Piece) → Some pieces ≡ pieces_in (all key) → (block : Block)
    → Contains (map (λ (piece : Piece). piece.block) pieces) block → StandsIn all block key
stands all key pieces is block there =
    let f = its_blocks (all key) pieces is block there in record { row = f.0; there = f.1; has = f.2 }

-- one of the snapshots in order has a number
its_number : (all : Rows) (volume bucket numbers : List ℕ) (snapshots : List Snapshot) → AreSnapshots all volume bucket numbers snapshots
    → (snapshot : Snapshot) (k : ℕ) → k < length snapshots → slice_index_or snapshots k snapshot ≡ snapshot
    → (number : ℕ) × IsSnapshot all volume bucket number snapshot
its_number all volume bucket [] [] are snapshot k within is = absurd (omega (arith, within))
its_number all volume bucket (n ∷ numbers) [] are snapshot k within is = absurd are
its_number all volume bucket [] (s ∷ snapshots) are snapshot k within is = absurd are
its_number all volume bucket (n ∷ numbers) (s ∷ snapshots) are snapshot zero within is = (n, subst (IsSnapshot all volume bucket n) is are.0)
its_number all volume bucket (n ∷ numbers) (s ∷ snapshots) are snapshot (suc k) within is =
    its_number all volume bucket numbers snapshots are.1 snapshot k (omega (arith, within)) is

keeper_is_home : (key : RowKey) → IsKeeper key → IsHome key
keeper_is_home (keys.Key volume bucket key) keeps = tt
keeper_is_home (keys.Deleted volume bucket owner key local) keeps = tt
keeper_is_home (keys.Volume volume) keeps = absurd keeps
keeper_is_home (keys.Bucket volume bucket) keeps = absurd keeps
keeper_is_home (keys.Open volume bucket key number) keeps = absurd keeps
keeper_is_home (keys.Snapshot volume bucket number) keeps = absurd keeps
keeper_is_home (keys.SnapshotKey volume bucket snapshot key) keeps = absurd keeps
keeper_is_home (keys.Renamed volume bucket owner local) keeps = absurd keeps
keeper_is_home (keys.Stripe stripe) keeps = absurd keeps

-- ---- the home of a reached block

module _ (all : Rows) (namespace : Namespace) (stands_for : StandsFor all namespace) (sound : BlocksAreSound all)
    (volume name : List ℕ) (bucket : Bucket) (there : bucket_of namespace volume name ≡ Some bucket) (block : Block) where
  in_keys : InKeys bucket.keys block → StoodIn all block (Some (volume, name))
  in_keys it = record {
    key = keys.Key volume name it.key;
    home = tt;
    here = stands all (keys.Key volume name it.key) it.pieces (sym (ap (option_and_then (λ (b : Bucket). get b.keys it.key)) there ∙ it.is_there)
        ∙ stands_for.pieces volume name it.key) block it.has;
    same_bucket = refl;
  }

  in_sessions : InSessions bucket block → StoodIn all block (Some (volume, name))
  in_sessions it =
      let row = (stands_for.sessions volume name it.number it.session).0 (ap (option_and_then (λ (b : Bucket). get b.sessions it.number)) there
      ∙ it.is_there) in
      record {
        key = keys.Open volume name it.session.key it.number;
        home = tt;
        here = record { row = rows.Open it.session.blocks; there = row; has = among block it.session.blocks it.has };
        same_bucket = refl;
      }

  -- a live snapshot's block is kept by a row of its bucket
  in_snapshots : InSnapshots bucket block → StoodIn all block (Some (volume, name))
  in_snapshots it =
      let all_of = stands_for.snapshots volume name in
      let found : Contains (snapshots_in (bucket_of namespace volume name)) it.snapshot =
      subst (λ (b : Option Bucket). Contains (snapshots_in b) it.snapshot) (sym there) it.is_there in
      let of = its_number all volume name all_of.numbers (snapshots_in (bucket_of namespace volume name)) all_of.each it.snapshot found.0 found.1 found.2 in
      let here = stands all (keys.SnapshotKey volume name of.0 it.in_keys.key) it.in_keys.pieces (sym it.in_keys.is_there
      ∙ of.1.pieces it.in_keys.key) block it.in_keys.has in
      let kept = sound.kept volume name it.in_keys.key of.0 block (record { live = (it.snapshot.name, of.1.previous, of.1.row); stands = here }) in
      record {
        key = kept.0;
        home = keeper_is_home kept.0 kept.1;
        here = kept.2;
        same_bucket = sound.one_bucket block kept.0 (keys.SnapshotKey volume name of.0 it.in_keys.key) kept.2 here;
      }

pub reached_at_home : (all : Rows) (namespace : Namespace) (block : Block) → StandsFor all namespace → BlocksAreSound all
    → (it : IsReached namespace block) → StoodIn all block (Some (it.volume, it.name))
reached_at_home all namespace block stands_for sound it =
    ⊎_elim (in_keys all namespace stands_for sound it.volume it.name it.bucket it.is_there block)
    (λ others. ⊎_elim (in_sessions all namespace stands_for sound it.volume it.name it.bucket it.is_there block)
    (in_snapshots all namespace stands_for sound it.volume it.name it.bucket it.is_there block) others) it.has

-- ---- homes of one stripe

first_volume : Option (List ℕ × List ℕ) → List ℕ
first_volume None = []
first_volume (Some place) = place.0

-- a home is of the stripe of its volume
its_stripe : (key : RowKey) → IsHome key → stripe_of_key key ≡ stripe_of (first_volume (bucket_of_row key))
unfolding first_volume
its_stripe (keys.Key volume bucket key) home = refl
its_stripe (keys.Open volume bucket key number) home = refl
its_stripe (keys.Deleted volume bucket owner key local) home = refl
its_stripe (keys.Volume volume) home = absurd home
its_stripe (keys.Bucket volume bucket) home = absurd home
its_stripe (keys.Snapshot volume bucket number) home = absurd home
its_stripe (keys.SnapshotKey volume bucket snapshot key) home = absurd home
its_stripe (keys.Renamed volume bucket owner local) home = absurd home
its_stripe (keys.Stripe stripe) home = absurd home

pub homes_of_one_stripe : (key other : RowKey) → IsHome key → IsHome other → bucket_of_row key ≡ bucket_of_row other → stripe_of_key key ≡ stripe_of_key other
homes_of_one_stripe key other home beside same =
    its_stripe key home ∙ ap (λ (place : Option (List ℕ × List ℕ)). stripe_of (first_volume place)) same ∙ sym (its_stripe other beside)

pub home_of_volume : (key : RowKey) (volume bucket : List ℕ) → IsHome key → bucket_of_row key ≡ Some (volume, bucket) → stripe_of_key key ≡ stripe_of volume
unfolding first_volume
home_of_volume key volume bucket home same =
    its_stripe key home ∙ ap (λ (place : Option (List ℕ × List ℕ)). stripe_of (first_volume place)) same

module _ (stripe : ℕ) (all : Rows) where
  from_only : (key : RowKey) (row : Row) → only stripe all key ≡ Some row → (stripe_of_key key ≡ stripe) × (all key ≡ Some row)
  from_only key row is = by (is_own stripe key) refl is
    where
      by : (t : Bool) → is_own stripe key ≡ t → cond t (all key) None ≡ Some row → (stripe_of_key key ≡ stripe) × (all key ≡ Some row)
      by true e is = (eqb-true (stripe_of_key key) stripe e, is)
      by false e is = absurd (none-some row is)

  -- what stands in the stripe's rows stands in all, and in those of the stripe where its row is of it
  pub stands_in_all : (block : Block) (key : RowKey) → StandsIn (only stripe all) block key → (stripe_of_key key ≡ stripe) × StandsIn all block key
  stands_in_all block key here =
      let from = from_only key here.row here.there in
      (from.0, record { row = here.row; there = from.1; has = here.has })

  pub stands_in_only : (block : Block) (key : RowKey) → stripe_of_key key ≡ stripe → StandsIn all block key → StandsIn (only stripe all) block key
  stands_in_only block key its here = record {
    row = here.row;
    there = ap (λ (t : Bool). cond t (all key) None) (eq-eqb (stripe_of_key key) stripe its) ∙ here.there;
    has = here.has;
  }
