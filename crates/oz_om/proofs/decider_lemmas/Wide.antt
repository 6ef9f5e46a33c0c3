-- What holds of all changes of an operation that speaks of many rows.
use Rattle.std.proofs.Common.{◌==◌, ◌&&◌, ℕ, Bool, true, false, List, [], ◌∷◌, is_some, cond}
use Rattle.std.specs.List.{AllByRecursion, flat_map}
use Rattle.oz_decision.specs.laws.SessionRows.{all_append}
use Rattle.oz_effects.specs.Effects.{copied, dropped, moved, operation_changes}
use Rattle.oz_rows.specs.declared.entry.RowEntry.{RowEntry}
use Rattle.oz_rows.specs.declared.key.RowKey.{RowKey}
use Rattle.oz_rows.specs.declared.key.RowKey.TheVariants as keys
use Rattle.oz_rows.specs.declared.operation.Change.{Change}
use Rattle.oz_rows.specs.declared.operation.Operation.TheVariants.{CopyKeys, DropKeys, MoveDeleted}
use Rattle.oz_rows.specs.declared.row.Row.{Row}
use Rattle.oz_rows.specs.declared.row.Row.TheVariants as rows
use Rattle.oz_rows.specs.RowMaps.{gone, is_bucket, put, row_of}

module _ (P : Change → Type 0) where
  if_so : (t : Bool) (changes : List Change) → AllByRecursion P changes → AllByRecursion P (cond t changes [])
  if_so true changes each = each
  if_so false changes each = tt

  if_not : (t : Bool) (changes : List Change) → AllByRecursion P changes → AllByRecursion P (cond t [] changes)
  if_not true changes each = tt
  if_not false changes each = each

  all_over : (give : RowEntry → List Change) → ((entry : RowEntry) → AllByRecursion P (give entry)) → (l : List RowEntry) → AllByRecursion P (flat_map give l)
  all_over give each [] = tt
  all_over give each (entry ∷ l) = all_append P (give entry) (flat_map give l) (each entry) (all_over give each l)

  -- the keys that a snapshot gets
  module _ (v b : List ℕ) (n : ℕ) (gets : (k : List ℕ) (row : Row) → P (put (keys.SnapshotKey v b n k) row)) where
    copied_each : (key : RowKey) (row : Row) → AllByRecursion P (copied v b n key row)
    copied_each (keys.Key w c k) (rows.Key made pieces) = if_so (is_bucket v b w c) (put (keys.SnapshotKey v b n k) (rows.SnapshotKey made pieces) ∷ []) (gets k (rows.SnapshotKey made pieces), tt)
    copied_each key row = tt

    pub copies_each : (entries : List RowEntry) → AllByRecursion P (operation_changes entries (CopyKeys v b n))
    copies_each entries = all_over (λ (entry : RowEntry). copied v b n entry.key entry.row) (λ entry. copied_each entry.key entry.row) entries

  -- the rows that go on from owner to owner
  module _ (v b : List ℕ) (deleted_goes : (o : ℕ) (k : List ℕ) (l : ℕ) → P (gone (keys.Deleted v b o k l)))
      (deleted_comes : (o : ℕ) (k : List ℕ) (l : ℕ) (row : Row) → P (put (keys.Deleted v b o k l) row))
      (renamed_goes : (o l : ℕ) → P (gone (keys.Renamed v b o l)))
      (renamed_comes : (o l : ℕ) (row : Row) → P (put (keys.Renamed v b o l) row)) where
    moved_each : (entries : List RowEntry) (from to : ℕ) (key : RowKey) (row : Row) → AllByRecursion P (moved entries v b from to key row)
    moved_each entries from to (keys.Deleted w c o k l) row =
        if_so (is_bucket v b w c && o == from) (gone (keys.Deleted v b from k l) ∷ put (keys.Deleted v b to k l) row ∷ []) (deleted_goes from k l, (deleted_comes to k l row, tt))
    moved_each entries from to (keys.Renamed w c o l) row =
        let stays = from == 0 && is_some (row_of entries (keys.Renamed v b to l)) in
        if_so (is_bucket v b w c && o == from) (gone (keys.Renamed v b from l) ∷ cond stays [] (put (keys.Renamed v b to l) row ∷ []))
        (renamed_goes from l, if_not stays (put (keys.Renamed v b to l) row ∷ []) (renamed_comes to l row, tt))
    moved_each entries from to key row = tt

    pub moves_each : (entries : List RowEntry) (from to : ℕ) → AllByRecursion P (operation_changes entries (MoveDeleted v b from to))
    moves_each entries from to =
        if_not (from == to) (flat_map (λ (entry : RowEntry). moved entries v b from to entry.key entry.row) entries)
        (all_over (λ (entry : RowEntry). moved entries v b from to entry.key entry.row) (λ entry. moved_each entries from to entry.key entry.row) entries)

  -- the keys of a snapshot that go
  module _ (v b : List ℕ) (n : ℕ) (goes : (k : List ℕ) → P (gone (keys.SnapshotKey v b n k))) where
    dropped_each : (key : RowKey) → AllByRecursion P (dropped v b n key)
    dropped_each (keys.SnapshotKey w c m k) = if_so (is_bucket v b w c && m == n) (gone (keys.SnapshotKey v b n k) ∷ []) (goes k, tt)
    dropped_each key = tt

    pub drops_each : (entries : List RowEntry) → AllByRecursion P (operation_changes entries (DropKeys v b n))
    drops_each entries = all_over (λ (entry : RowEntry). dropped v b n entry.key) (λ entry. dropped_each entry.key) entries
