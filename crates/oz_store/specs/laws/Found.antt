-- A block that a namespace reaches stands in a row.
use Rattle.std.proofs.Common.{
  ◌≡◌,
  ⊎_elim,
  ℕ,
  zero,
  suc,
  ◌<◌,
  Bool,
  true,
  ◌&&◌,
  ◌==◌,
  List,
  [],
  ◌∷◌,
  length,
  map,
  Option,
  None,
  Some,
  Contains,
  refl,
  sym,
  ◌∙◌,
  ap,
  subst,
  arith,
}
use Rattle.std.proofs.lemmas.Bool.{eq-eqb}
use Rattle.std.proofs.lemmas.List.Folds.{list_any-from_Any}
use Rattle.std.specs.FinMap.{get}
use Rattle.std.specs.List.{list_any, slice_index_or}
use Rattle.std.specs.Option.{option_and_then}
use Rattle.oz_fields.specs.declared.block.Block.{Block}
use Rattle.oz_fields.specs.declared.block.Piece.{Piece}
use Rattle.oz_model.specs.Reach.{IsReached, InKeys, InSessions, InSnapshots}
use Rattle.oz_namespace.specs.declared.namespace.Bucket.{Bucket}
use Rattle.oz_namespace.specs.declared.namespace.Namespace.{Namespace}
use Rattle.oz_namespace.specs.declared.namespace.Snapshot.{Snapshot}
use Rattle.oz_namespace.specs.Namespace.{snapshots_in, bucket_of}
use Rattle.oz_rows.specs.declared.key.RowKey.{RowKey}
use Rattle.oz_rows.specs.declared.key.RowKey.TheVariants as keys
use Rattle.oz_rows.specs.declared.row.Row.{Row}
use Rattle.oz_rows.specs.declared.row.Row.TheVariants as rows
use Rattle.oz_rows.specs.RowMaps.{is_block, Rows}
use Rattle.oz_sound.specs.Sound.{blocks_of}
use Rattle.oz_sound.specs.StandsFor.{StandsFor, AreSnapshots, IsSnapshot, pieces_in}
use Rattle.oz_store.specs.Store.{IsInARow}

itself : (block : Block) → is_block block block ≡ true
itself block = ap (λ (b : Bool). b && block.local == block.local) (eq-eqb block.container block.container refl) ∙ eq-eqb block.local block.local refl

among : (block : Block) (blocks : List Block) → Contains blocks block → list_any (is_block block) blocks ≡ true
among block blocks there = list_any-from_Any (is_block block) blocks (there.0, block, there.1, there.2, itself block)

-- the row that has pieces has their blocks
its_blocks : (row : Option Row) (pieces : List Piece) → Some pieces ≡ pieces_in row → (block : Block)
    → Contains (map (λ (piece : Piece). piece.block) pieces) block → (found : Row) × (row ≡ Some found)
    × (list_any (is_block block) (blocks_of found) ≡ true)
its_blocks None pieces is block there = absurd (cc)
its_blocks (Some (rows.Key number of)) pieces is block there = (
  rows.Key number of,
  refl,
  among block (blocks_of (rows.Key number of))
      (subst (λ (o : List Piece). Contains (map (λ (piece : Piece). piece.block) o) block) (cc) there),
)
its_blocks (Some (rows.SnapshotKey number of)) pieces is block there = (
  rows.SnapshotKey number of,
  refl,
  among block (blocks_of (rows.SnapshotKey number of))
      (subst (λ (o : List Piece). Contains (map (λ (piece : Piece). piece.block) o) block) (cc) there),
)
its_blocks (Some row) pieces is block there = absurd (cc)

stands : (all : Rows) (key : RowKey) (pieces : List Piece) → Some pieces ≡ pieces_in (all key) → (block : Block)
    → Contains (map (λ (piece : Piece). piece.block) pieces) block → IsInARow all block
stands all key pieces is block there =
    let f = its_blocks (all key) pieces is block there in (key, record { row = f.0; there = f.1; has = f.2 })

-- one of the snapshots in order has a number
its_number : (all : Rows) (volume bucket numbers : List ℕ) (snapshots : List Snapshot) → AreSnapshots all volume bucket numbers snapshots
    → (snapshot : Snapshot) (k : ℕ) → k < length snapshots → slice_index_or snapshots k snapshot ≡ snapshot → (number : ℕ)
    × IsSnapshot all volume bucket number snapshot
its_number all volume bucket [] [] are snapshot k within is = absurd (omega (arith, within))
its_number all volume bucket (n ∷ numbers) [] are snapshot k within is = absurd are
its_number all volume bucket [] (s ∷ snapshots) are snapshot k within is = absurd are
its_number all volume bucket (n ∷ numbers) (s ∷ snapshots) are snapshot zero within is = (n, subst (IsSnapshot all volume bucket n) is are.0)
its_number all volume bucket (n ∷ numbers) (s ∷ snapshots) are snapshot (suc k) within is =
    its_number all volume bucket numbers snapshots are.1 snapshot k (omega (arith, within)) is

module _ (all : Rows) (namespace : Namespace) (stands_for : StandsFor all namespace) (volume name : List ℕ) (bucket : Bucket)
    (there : bucket_of namespace volume name ≡ Some bucket) (block : Block) where
  in_keys : InKeys bucket.keys block → IsInARow all block
  in_keys it = stands all (keys.Key volume name it.key) it.pieces
      (sym (ap (option_and_then (λ (b : Bucket). get b.keys it.key)) there ∙ it.is_there) ∙ stands_for.pieces volume name it.key) block it.has

  in_sessions : InSessions bucket block → IsInARow all block
  in_sessions it =
      let row = (stands_for.sessions volume name it.number it.session).0
      (ap (option_and_then (λ (b : Bucket). get b.sessions it.number)) there ∙ it.is_there) in
      (keys.Open volume name it.session.key it.number, record { row = rows.Open it.session.blocks; there = row; has = among block it.session.blocks it.has })

  in_snapshots : InSnapshots bucket block → IsInARow all block
  in_snapshots it =
      let all_of = stands_for.snapshots volume name in
      let found : Contains (snapshots_in (bucket_of namespace volume name)) it.snapshot =
      subst (λ (b : Option Bucket). Contains (snapshots_in b) it.snapshot) (sym there) it.is_there in
      let of = its_number all volume name all_of.numbers (snapshots_in (bucket_of namespace volume name)) all_of.each it.snapshot found.0 found.1 found.2 in
      stands all (keys.SnapshotKey volume name of.0 it.in_keys.key) it.in_keys.pieces
      (sym it.in_keys.is_there ∙ of.1.pieces it.in_keys.key) block it.in_keys.has

pub reached_is_found : (all : Rows) (namespace : Namespace) (block : Block) → StandsFor all namespace → IsReached namespace block → IsInARow all block
reached_is_found all namespace block stands_for is =
    ⊎_elim (in_keys all namespace stands_for is.volume is.name is.bucket is.is_there block)
    (λ others. ⊎_elim (in_sessions all namespace stands_for is.volume is.name is.bucket is.is_there block)
    (in_snapshots all namespace stands_for is.volume is.name is.bucket is.is_there block) others) is.has
