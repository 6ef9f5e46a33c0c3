-- For calls inside this crate alone.

-- Which snapshots needn't be looked at for each block of a key.
use Rattle.std.specs.Prelude.{◌≡◌, ℕ, ◌≤◌, Bool, true, false, ◌&&◌, ◌==◌, nat_le, List, None, is_some}
use Rattle.oz_fields.specs.declared.block.Block.{Block}
use Rattle.oz_model.specs.Buckets.{is_same_name}
use Rattle.oz_om_key.specs.declared.om_change.passing.Span.{Span}
use Rattle.oz_decision.specs.Walking.{is_live}
use Rattle.oz_reclaim.specs.Held.{has_there, is_held}
use Rattle.oz_rows.specs.declared.key.RowKey.{RowKey}
use Rattle.oz_rows.specs.declared.key.RowKey.TheVariants as keys
use Rattle.oz_rows.specs.RowMaps.{Rows}

-- the block's local id is in the span
pub record IsInSpan (span : Span) (block : Block) : Type 0 where
  pub least : span.least ≤ block.local
  pub greatest : block.local ≤ span.greatest

-- the snapshot of this number has a row of the key's name
abbrev pub has_its_name : Rows → List ℕ → List ℕ → List ℕ → ℕ → Bool
has_its_name all volume bucket key number = is_some (all (keys.SnapshotKey volume bucket number key))

-- the snapshot of this number has no renamed row of an id in the span
abbrev pub HasNoneRenamed : Rows → List ℕ → List ℕ → Span → ℕ → Type 0
HasNoneRenamed all volume bucket span number =
    (local : ℕ) → span.least ≤ local → local ≤ span.greatest → all (keys.Renamed volume bucket number local) ≡ None

-- the key is that of a renamed row of the snapshot, of an id up to the greatest
abbrev pub is_within : List ℕ → List ℕ → ℕ → ℕ → RowKey → Bool
is_within volume bucket number greatest (keys.Renamed of_volume of_bucket owner local) =
    is_same_name of_volume volume && is_same_name of_bucket bucket && owner == number && nat_le local greatest
is_within volume bucket number greatest (keys.Volume of_volume) = false
is_within volume bucket number greatest (keys.Bucket of_volume of_bucket) = false
is_within volume bucket number greatest (keys.Key of_volume of_bucket key) = false
is_within volume bucket number greatest (keys.Open of_volume of_bucket key session) = false
is_within volume bucket number greatest (keys.Deleted of_volume of_bucket owner key local) = false
is_within volume bucket number greatest (keys.Snapshot of_volume of_bucket snapshot) = false
is_within volume bucket number greatest (keys.SnapshotKey of_volume of_bucket snapshot key) = false
is_within volume bucket number greatest (keys.Stripe stripe) = false

-- Where the bucket itself has no renamed row of the block, these snapshots tell of it what all tell: whether a live one has it.
abbrev pub IsHeldAlike : Rows → List ℕ → List ℕ → List ℕ → List ℕ → List ℕ → Block → Type 0
IsHeldAlike all volume bucket key numbers kept block =
    all (keys.Renamed volume bucket 0 block.local) ≡ None
    → is_held all volume bucket block key kept ≡ is_held all volume bucket block key numbers

-- the snapshot of this number is live, and has the block under the key's name
abbrev pub IsLiveIn : Rows → List ℕ → List ℕ → List ℕ → ℕ → Block → Type 0
IsLiveIn all volume bucket key number block =
    (is_live (all (keys.Snapshot volume bucket number)) && has_there block (all (keys.SnapshotKey volume bucket number key))) ≡ true
