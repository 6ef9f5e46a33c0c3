-- The facts of sound rows as tests of rows.
use Rattle.std.specs.Prelude.{ℕ, Bool, true, false, not, ◌||◌, ◌&&◌, ◌==◌, nat_lt, nat_le, List, [], Option, None, Some, is_some}
use Rattle.std.specs.List.{list_all, list_any}
use Rattle.oz_fields.specs.declared.block.Block.{Block}
use Rattle.oz_names.specs.Names.{stripe_of}
use Rattle.oz_rows.specs.declared.key.RowKey.{RowKey}
use Rattle.oz_rows.specs.declared.key.RowKey.TheVariants as keys
use Rattle.oz_rows.specs.declared.row.Row.{Row}
use Rattle.oz_rows.specs.declared.row.Row.TheVariants as values
use Rattle.oz_rows.specs.declared.row.SnapshotState.TheVariants.{Live}
use Rattle.oz_rows.specs.declared.entry.RowEntry.{RowEntry}
use Rattle.oz_rows.specs.RowMaps.{is_block, is_bucket, Rows, is_same}
use Rattle.oz_sound.specs.Sound.{bucket_of_row}
use Rattle.oz_sound.specs.StandsFor.{drawn_in, is_among}
use Rattle.oz_sound.proofs.example_lemmas.Blocks.{each_block, some_block}

abbrev pub is_name : List ℕ → List ℕ → Bool
is_name name other = is_same (keys.Volume name) (keys.Volume other)

-- ---- where blocks stand

abbrev pub is_same_bucket : Option (List ℕ × List ℕ) → Option (List ℕ × List ℕ) → Bool
is_same_bucket None None = true
is_same_bucket (Some (volume, bucket)) (Some (other, another)) = is_bucket volume bucket other another
is_same_bucket None (Some place) = false
is_same_bucket (Some place) None = false

abbrev pub is_home : RowKey → Bool
is_home (keys.Key volume bucket key) = true
is_home (keys.Open volume bucket key number) = true
is_home (keys.Deleted volume bucket owner key local) = true
is_home key = false

abbrev pub is_keeper : RowKey → Bool
is_keeper (keys.Key volume bucket key) = true
is_keeper (keys.Deleted volume bucket owner key local) = true
is_keeper key = false

-- a block that stands in two rows
abbrev pub agree_on_bucket : RowKey → Block → RowKey → Block → Bool
agree_on_bucket key block other twin = not (is_block block twin) || is_same_bucket (bucket_of_row key) (bucket_of_row other)

abbrev pub agree_on_home : RowKey → Block → RowKey → Block → Bool
agree_on_home key block other twin = not (is_block block twin && is_home key && is_home other) || is_same key other

abbrev pub agree_on_local : RowKey → Block → RowKey → Block → Bool
agree_on_local key block other twin = not (block.local == twin.local) || is_block twin block

-- the number of each live snapshot is one of these
abbrev pub has_number : List ℕ → RowKey → Row → Bool
has_number numbers (keys.Snapshot volume bucket number) (values.Snapshot name previous Live) = is_among number numbers
has_number numbers key row = true

abbrev pub name_in : RowKey → List ℕ
name_in (keys.SnapshotKey volume bucket number name) = name
name_in key = []

-- the key is one of this snapshot
abbrev pub is_of_snapshot : List ℕ → List ℕ → ℕ → RowKey → Bool
is_of_snapshot volume bucket number key = is_same key (keys.SnapshotKey volume bucket number (name_in key))

module _ (live : List ℕ) (rows : List RowEntry) where
  abbrev pub is_kept : RowKey → Block → Bool
  is_kept (keys.SnapshotKey volume bucket number name) block = not (is_among number live) || some_block (λ other twin. is_keeper other && is_block block twin) rows
  is_kept key block = true

  -- where a snapshot has one block, it has the other
  abbrev pub follows : Bool → Block → RowKey → Bool
  follows false other key = true
  follows true other (keys.SnapshotKey volume bucket number name) = not (is_among number live) || some_block (λ key twin. is_of_snapshot volume bucket number key && is_block other twin) rows
  follows true other key = true

  abbrev pub is_together : Bool → Block → Block → Bool
  is_together false block other = true
  is_together true block other = each_block (λ key twin. follows (is_block block twin) other key) rows

  abbrev pub agree_on_snapshots : RowKey → Block → RowKey → Block → Bool
  agree_on_snapshots key block other twin = is_together (is_keeper key && is_same key other) block twin

-- ---- names

abbrev pub agree_on_name : RowKey → Block → RowKey → Block → Bool
agree_on_name (keys.SnapshotKey volume bucket number name) block other twin = not (is_block block twin && is_of_snapshot volume bucket number other) || is_name name (name_in other)
agree_on_name key block other twin = true

abbrev pub is_snapshot_key : RowKey → Bool
is_snapshot_key (keys.SnapshotKey volume bucket number name) = true
is_snapshot_key key = false

-- a block of an open key stands in no snapshot
abbrev pub is_in_no_snapshot : RowKey → Block → RowKey → Block → Bool
is_in_no_snapshot (keys.Open volume bucket key number) block other twin = not (is_block block twin && is_snapshot_key other)
is_in_no_snapshot key block other twin = true

abbrev pub comes_behind : ℕ → ℕ → Bool
comes_behind number owner = owner == 0 || nat_lt number owner

abbrev pub owner_in : RowKey → ℕ
owner_in (keys.Renamed volume bucket owner local) = owner
owner_in key = 0

-- the key is that of a renamed row of the block, whose owner comes behind the snapshot
abbrev pub is_renamed : List ℕ → List ℕ → ℕ → ℕ → RowKey → Bool
is_renamed volume bucket number local key = is_same key (keys.Renamed volume bucket (owner_in key) local) && comes_behind number (owner_in key)

-- this owner comes before another, or is it
abbrev pub is_not_after : ℕ → ℕ → Bool
is_not_after owner other = other == owner || (not (owner == 0) && comes_behind owner other)

abbrev pub is_renamed_to : List ℕ → Row → Bool
is_renamed_to name (values.Renamed another) = is_name another name
is_renamed_to name row = false

abbrev pub is_a_rename : Row → Bool
is_a_rename (values.Renamed another) = true
is_a_rename row = false

module _ (rows : List RowEntry) where
  -- no renamed row of the block has an owner before this one
  abbrev pub is_first : List ℕ → List ℕ → ℕ → ℕ → ℕ → Bool
  is_first volume bucket number local owner = list_all (λ (entry : RowEntry). not (is_renamed volume bucket number local entry.key) || is_not_after owner (owner_in entry.key)) rows

  -- the renamed row has the name, or one comes before it
  abbrev pub rename_has : List ℕ → List ℕ → ℕ → List ℕ → ℕ → RowKey → Row → Bool
  rename_has volume bucket number name local key row =
      not (is_renamed volume bucket number local key) || is_renamed_to name row
      || list_any (λ (entry : RowEntry). is_renamed volume bucket number local entry.key && not (is_not_after (owner_in key) (owner_in entry.key))) rows

  abbrev pub renames_have : RowKey → Block → Bool
  renames_have (keys.SnapshotKey volume bucket number name) block = list_all (λ (entry : RowEntry). rename_has volume bucket number name block.local entry.key entry.row) rows
  renames_have key block = true

  abbrev pub has_rename : List ℕ → List ℕ → ℕ → ℕ → Bool
  has_rename volume bucket number local =
      list_any (λ (entry : RowEntry). is_a_rename entry.row && is_renamed volume bucket number local entry.key && is_first volume bucket number local (owner_in entry.key)) rows

  -- the row names a block anew that a snapshot has under this name
  abbrev pub names_anew : ℕ → List ℕ → RowKey → Bool
  names_anew number name (keys.SnapshotKey volume bucket later another) = nat_lt number later && not (is_name another name)
  names_anew number name (keys.Key volume bucket another) = not (is_name another name)
  names_anew number name key = false

  abbrev pub is_noted : RowKey → Block → Bool
  is_noted (keys.SnapshotKey volume bucket number name) block =
      each_block (λ key twin. not (is_block block twin && names_anew number name key)) rows || has_rename volume bucket number block.local
  is_noted key block = true

-- a live snapshot, beside another with its name
abbrev pub agree_on_snapshot : RowKey → Row → RowKey → Row → Bool
agree_on_snapshot (keys.Snapshot volume bucket number) (values.Snapshot name previous Live) (keys.Snapshot other another twin) (values.Snapshot same before Live) =
    not (is_bucket volume bucket other another && is_name name same) || number == twin
agree_on_snapshot key row other twin = true

-- ---- numbers

abbrev pub session_is_drawn : Rows → RowKey → Bool
session_is_drawn all (keys.Open volume bucket key number) = nat_le number (drawn_in (all (keys.Stripe (stripe_of volume))))
session_is_drawn all key = true

abbrev pub snapshot_is_drawn : Rows → RowKey → Bool
snapshot_is_drawn all (keys.Snapshot volume bucket number) = nat_le number (drawn_in (all (keys.Stripe (stripe_of volume))))
snapshot_is_drawn all key = true

abbrev pub deleted_owner_stands : Rows → RowKey → Bool
deleted_owner_stands all (keys.Deleted volume bucket owner key local) = owner == 0 || is_some (all (keys.Snapshot volume bucket owner))
deleted_owner_stands all key = true

abbrev pub renamed_owner_stands : Rows → RowKey → Bool
renamed_owner_stands all (keys.Renamed volume bucket owner local) = owner == 0 || is_some (all (keys.Snapshot volume bucket owner))
renamed_owner_stands all key = true

abbrev pub snapshot_key_stands : Rows → RowKey → Bool
snapshot_key_stands all (keys.SnapshotKey volume bucket number key) = is_some (all (keys.Snapshot volume bucket number))
snapshot_key_stands all key = true

-- the key is that of a snapshot of the bucket
abbrev pub is_snapshot_of : List ℕ → List ℕ → RowKey → Bool
is_snapshot_of volume bucket (keys.Snapshot of_volume of_bucket number) = is_bucket of_volume of_bucket volume bucket
is_snapshot_of volume bucket key = false
