-- Which blocks live snapshots have, bucket by bucket.
use Rattle.std.specs.Prelude.{◌≡◌, ◌↔◌, ℕ, true, false, List, Option, IfSome}
use Rattle.std.specs.BTreeSet.{BTreeSet}
use Rattle.oz_decision.specs.Walking.{is_live}
use Rattle.oz_effects.specs.changes.Steps.{holds}
use Rattle.oz_fields.specs.declared.block.Block.{Block}
use Rattle.oz_reclaim.specs.declared.sweep.notes.Note.{Note}
use Rattle.oz_reclaim.specs.sweep.Notes.{touches}
use Rattle.oz_rows.specs.declared.key.RowKey.{RowKey}
use Rattle.oz_rows.specs.declared.key.RowKey.TheVariants as keys
use Rattle.oz_rows.specs.Order.{key_order}
use Rattle.oz_rows.specs.RowMaps.{Rows}
use Rattle.oz_sorted.specs.declared.entry.Entry.{Entry}
use Rattle.oz_sorted.specs.Sorted.{value_of}
use Rattle.oz_sound.specs.Sound.{StandsIn}

-- a live snapshot of the bucket has the block
pub record IsKept (all : Rows) (volume bucket : List ℕ) (block : Block) : Type 0 where
  pub number : ℕ
  pub name : List ℕ
  pub live : is_live (all (keys.Snapshot volume bucket number)) ≡ true
  pub stands : StandsIn all block (keys.SnapshotKey volume bucket number name)

-- sets of blocks, each under the key of its bucket
abbrev pub Sets : Type 0
Sets = List (Entry RowKey (BTreeSet Block))

abbrev pub set_of : Sets → List ℕ → List ℕ → Option (BTreeSet Block)
set_of sets volume bucket = value_of key_order sets (keys.Bucket volume bucket)

-- the set has the blocks that live snapshots of the bucket have
abbrev pub AreKept : Rows → List ℕ → List ℕ → BTreeSet Block → Type 0
AreKept all volume bucket set = (block : Block) → (holds set block ≡ true) ↔ IsKept all volume bucket block

-- so it is with each set
abbrev pub AreRight : Rows → Sets → Type 0
AreRight all sets = (volume bucket : List ℕ) → IfSome (set_of sets volume bucket) (AreKept all volume bucket)

-- but with those of buckets of whose snapshots there are notes
abbrev pub AreRightBut : List Note → Rows → Sets → Type 0
AreRightBut notes all sets = (volume bucket : List ℕ) → touches notes volume bucket ≡ false
    → IfSome (set_of sets volume bucket) (AreKept all volume bucket)
