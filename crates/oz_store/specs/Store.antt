-- What the disks of a whole store stand for together, where the manager's rows are known.
use Rattle.std.specs.Prelude.{◌≡◌, ◌↔◌, ◌⊎◌, ℕ, ◌<◌, List, [], Option, None, Some, IsSome, Contains}
use Rattle.std.specs.FinMap.{get, empty}
use Rattle.oz_fields.specs.declared.block.Block.{Block}
use Rattle.oz_model.specs.Reach.{IsReached}
use Rattle.oz_namespace.specs.declared.namespace.Namespace.{Namespace}
use Rattle.oz_namespace.specs.Namespace.{nothing}
use Rattle.oz_rows.specs.declared.key.RowKey.{RowKey}
use Rattle.oz_rows.specs.declared.key.RowKey.TheVariants as keys
use Rattle.oz_rows.specs.declared.row.Row.TheVariants as rows
use Rattle.oz_rows.specs.declared.row.SnapshotState.{SnapshotState}
use Rattle.oz_rows.specs.declared.row.SnapshotState.TheVariants.{Live}
use Rattle.oz_rows.specs.RowMaps.{Rows}
use Rattle.oz_sound.specs.Sound.{IsSoundButRenames, StandsIn}
use Rattle.oz_sound.specs.StandsFor.{StandsFor}
use Rattle.oz_core.specs.declared.opening.Opening.{Opening}
use Rattle.oz_core.specs.Coherent.{IsCoherent}
use Rattle.oz_core.specs.Contents.{OpeningBytes}

-- a row of some kind names the block
abbrev pub IsInARow : Rows → Block → Type 0
IsInARow all block = (key : RowKey) × StandsIn all block key

-- a deleted row names it
pub record IsInADeletedRow (all : Rows) (block : Block) : Type 0 where
  pub volume : List ℕ
  pub bucket : List ℕ
  pub owner : ℕ
  pub key : List ℕ
  pub local : ℕ
  pub has : StandsIn all block (keys.Deleted volume bucket owner key local)

-- the local id of a block that stands in the key of a row
abbrev pub local_in : RowKey → Option ℕ
local_in (keys.Deleted volume bucket owner key local) = Some local
local_in (keys.Renamed volume bucket owner local) = Some local
local_in key = None

-- Each block that a row names lies in a container that was made, and no id that a row or its key names is granted again.
-- So do the blocks of rows that no namespace shows, as those of a snapshot that is marked.
pub record RowsAreCoherent (all : Rows) (opening : Opening) : Type 0 where
  pub made : (block : Block) → IsInARow all block → IsSome (get opening.containers block.container)
  pub fresh : (block : Block) → IsInARow all block → block.local < opening.next_id
  pub fresh_in_keys : (key : RowKey) (local : ℕ) → IsSome (all key) → local_in key ≡ Some local
      → local < opening.next_id

-- The manager's rows stand for the opening's namespace and are sound, but for what renamed rows say, which no request writes
-- yet; its deleted rows have the blocks that are left, and all disks agree.
pub record IsStore (all : Rows) (opening : Opening) (bytes : OpeningBytes) : Type 0 where
  pub stands : StandsFor all opening.namespace
  pub sound : IsSoundButRenames all
  pub left : (block : Block) → Contains opening.left block ↔ IsInADeletedRow all block
  pub rows : RowsAreCoherent all opening
  pub disks : IsCoherent opening bytes

-- a store in which nothing was done yet, without datanodes
abbrev pub empty_store : Opening
empty_store = record {
  namespace = nothing;
  last_index = 0;
  left = [];
  next_id = 1;
  last_txn = 0;
  containers = empty;
  unretired = [];
  nodes = [];
}

-- Rows are worked off: no snapshot is marked, each key of a snapshot and each rename that a snapshot owns has its
-- snapshot, and each deleted row has a block that the namespace reaches.
pub record AreWorkedOff (all : Rows) (namespace : Namespace) : Type 0 where
  pub unmarked : (volume bucket name : List ℕ) (number previous : ℕ) (state : SnapshotState)
      → all (keys.Snapshot volume bucket number) ≡ Some (rows.Snapshot name previous state) → state ≡ Live
  pub snapshot_keys : (volume bucket key : List ℕ) (number : ℕ)
      → IsSome (all (keys.SnapshotKey volume bucket number key)) → IsSome (all (keys.Snapshot volume bucket number))
  pub renamed : (volume bucket : List ℕ) (owner local : ℕ)
      → IsSome (all (keys.Renamed volume bucket owner local))
      → (owner ≡ 0) ⊎ IsSome (all (keys.Snapshot volume bucket owner))
  pub deleted : (volume bucket key : List ℕ) (owner local : ℕ)
      → IsSome (all (keys.Deleted volume bucket owner key local))
      → (block : Block) × StandsIn all block (keys.Deleted volume bucket owner key local) × IsReached namespace block
