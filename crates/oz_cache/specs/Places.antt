-- For private calls: what keys have above the tables.
use Rattle.std.specs.Prelude.{◌≡◌, ℕ, List, [], ◌∷◌, Option, None, Some, IsSome, if◌then◌else◌, nat_lt, ◌+◌, ◌-◌, Bool, true, false}
use Rattle.oz_rows.specs.declared.key.RowKey.{RowKey}
use Rattle.oz_rows.specs.declared.operation.Change.{Change}
use Rattle.oz_rows.specs.Order.{key_order}
use Rattle.oz_rows.specs.declared.row.Row.{Row}
use Rattle.oz_sorted.specs.declared.entry.Entry.{Entry}
use Rattle.oz_sorted.specs.Sorted.{value_of}
use Rattle.oz_rows.specs.RowMaps.{Rows, IsBelow, is_same}
use Rattle.oz_cache.specs.declared.cached_rows.CachedRow.{CachedRow}
use Rattle.oz_cache.specs.declared.batch.Batch.{Batch}

abbrev pub Entries : Type 0
Entries = List (Entry RowKey CachedRow)

-- the cached row of a key
abbrev pub found : Entries → RowKey → Option CachedRow
found rows key = value_of key_order rows key

-- what the last change made of a key: its epoch, and the row, or none where it was taken away
pub record Written : Type 0 where
  pub epoch : ℕ
  pub row : Option Row

abbrev pub written : ℕ → Change → Written
written epoch change = record { epoch = epoch; row = change.row }

-- a cached row without its place
abbrev pub written_by : CachedRow → Written
written_by cached = record { epoch = cached.epoch; row = cached.row }

abbrev pub as_written : Option CachedRow → Option Written
as_written None = None
as_written (Some cached) = Some (written_by cached)

-- what the cached rows have of a key
abbrev pub written_in : Entries → RowKey → Option Written
written_in rows key = as_written (found rows key)

-- the same after changes of one epoch
abbrev pub after_changes : ℕ → List Change → RowKey → Option Written → Option Written
after_changes epoch [] key before = before
after_changes epoch (change ∷ changes) key before =
    after_changes epoch changes key (if is_same change.key key then Some (written epoch change) else before)

-- and after batches
abbrev pub after_batches : List Batch → RowKey → Option Written → Option Written
after_batches [] key before = before
after_batches (batch ∷ batches) key before =
    after_batches batches key (after_changes batch.epoch batch.changes key before)

-- what an epoch after this one wrote
abbrev pub if_later : ℕ → Option Written → Option Written
if_later epoch None = None
if_later epoch (Some w) = if nat_lt epoch w.epoch then Some w else None

-- the cached rows have of each key what the batches make of none
abbrev pub AreLastOf : List Batch → Entries → Type 0
AreLastOf batches rows = (key : RowKey) → written_in rows key ≡ after_batches batches key None

-- the first cached row from a key on
pub record IsFirst (cached : RowKey → Option CachedRow) (from at : RowKey) (row : CachedRow) : Type 0 where
  pub its_row : cached at ≡ Some row
  pub not_below : IsBelow at from → ⊥
  pub least : (other : RowKey) → IsSome (cached other) → (IsBelow other from → ⊥) → IsBelow other at → ⊥

-- there is none
abbrev pub HasNone : (RowKey → Option CachedRow) → RowKey → Type 0
HasNone cached from = (other : RowKey) → IsSome (cached other) → (IsBelow other from → ⊥) → ⊥

-- a count where a row comes or goes
abbrev pub counted_anew : ℕ → Bool → Bool → ℕ
counted_anew count false true = count + 1
counted_anew count true false = count - 1
counted_anew count true true = count
counted_anew count false false = count

-- a cached row hides what is below
abbrev pub over_row : Option CachedRow → Option Row → Option Row
over_row None row = row
over_row (Some cached) row = cached.row

-- the rows of tables with cached rows above them
abbrev pub over_rows : Entries → Rows → Rows
over_rows cached rows key = over_row (found cached key) (rows key)
