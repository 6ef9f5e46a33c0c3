-- For calls inside this crate alone.

-- Deleted rows whose local ids are known.
use Rattle.std.specs.Prelude.{◌≡◌, ℕ, Bool, false, List}
use Rattle.std.specs.List.{Contains, list_any}
use Rattle.oz_fields.specs.declared.block.Block.{Block}
use Rattle.oz_rows.specs.declared.entry.RowEntry.{RowEntry}
use Rattle.oz_rows.specs.declared.key.RowKey.{RowKey}
use Rattle.oz_rows.specs.declared.key.RowKey.TheVariants as keys
use Rattle.oz_sound.specs.Sound.{blocks_of}

-- the key is that of a deleted row with one of these local ids
abbrev pub IsOfKnown : List ℕ → RowKey → Type 0
IsOfKnown known (keys.Deleted volume bucket owner key local) = Contains known local
IsOfKnown known (keys.Volume volume) = ⊥
IsOfKnown known (keys.Bucket volume bucket) = ⊥
IsOfKnown known (keys.Key volume bucket key) = ⊥
IsOfKnown known (keys.Open volume bucket key number) = ⊥
IsOfKnown known (keys.Snapshot volume bucket number) = ⊥
IsOfKnown known (keys.SnapshotKey volume bucket snapshot key) = ⊥
IsOfKnown known (keys.Renamed volume bucket owner local) = ⊥
IsOfKnown known (keys.Stripe stripe) = ⊥

-- where its local id is known, none of the entry's blocks passes the test
abbrev pub IsClearIfKnown : List ℕ → (Block → Bool) → RowEntry → Type 0
IsClearIfKnown known test entry = IsOfKnown known entry.key → list_any test (blocks_of entry.row) ≡ false
