-- Rows as a map: which row a key has, which key comes next, and what changes make of the rows.
use Rattle.std.specs.Prelude.{◌≡◌, ℕ, Bool, ◌&&◌, ◌==◌, List, [], ◌∷◌, Option, None, Some, IsSome, if◌then◌else◌}
use Rattle.std.specs.List.{AllByRecursion}
use Rattle.std.specs.Ordering.{is_eq}
use Rattle.std.specs.declared.cmp.Ordering.TheVariants.{Less}
use Rattle.oz_fields.specs.declared.block.Block.{Block}
use Rattle.oz_rows.specs.declared.entry.RowEntry.{RowEntry}
use Rattle.oz_rows.specs.declared.key.RowKey.{RowKey}
use Rattle.oz_rows.specs.declared.key.RowKey.TheVariants as keys
use Rattle.oz_rows.specs.declared.row.Row.{Row}
use Rattle.oz_rows.specs.declared.operation.Change.{Change}
use Rattle.oz_rows.specs.Rows.{kind_of}
use Rattle.oz_rows.specs.Order.{key_order}

abbrev pub IsBelow : RowKey → RowKey → Type 0
IsBelow a b = key_order a b ≡ Less

-- the keys are of one kind and have the same fields
abbrev pub is_same : RowKey → RowKey → Bool
is_same a b = is_eq (key_order a b)

-- the same bucket of the same volume
abbrev pub is_bucket : List ℕ → List ℕ → List ℕ → List ℕ → Bool
is_bucket volume bucket other_volume other_bucket =
    is_same (keys.Bucket volume bucket) (keys.Bucket other_volume other_bucket)

abbrev pub is_block : Block → Block → Bool
is_block block other = other.container == block.container && other.local == block.local

-- each key is below those behind it
abbrev pub KeysRise : List RowEntry → Type 0
KeysRise [] = Unit {0}
KeysRise (entry ∷ others) = AllByRecursion (λ other. IsBelow entry.key other.key) others × KeysRise others

-- the row that a key has
abbrev pub row_of : List RowEntry → RowKey → Option Row
row_of [] key = None
row_of (entry ∷ others) key = if is_same entry.key key then Some entry.row else row_of others key

-- which row each key has
abbrev pub Rows : Type 0
Rows = RowKey → Option Row

-- rows in order, which give each key its row
pub record AreRows (all : List RowEntry) (rows : Rows) : Type 0 where
  pub in_order : KeysRise all
  pub rows_are : (key : RowKey) → row_of all key ≡ rows key

-- a key of the same kind, above this one, that has a row
pub record IsAbove (rows : Rows) (key other : RowKey) : Type 0 where
  pub has_row : IsSome (rows other)
  pub same_kind : kind_of other ≡ kind_of key
  pub above : IsBelow key other

-- the least of these keys, and its row
pub record IsNext (rows : Rows) (key found : RowKey) (row : Row) : Type 0 where
  pub is_above : IsAbove rows key found
  pub its_row : rows found ≡ Some row
  pub least : (other : RowKey) → IsAbove rows key other → IsBelow other found → ⊥

-- there are none
abbrev pub HasNoNext : Rows → RowKey → Type 0
HasNoNext rows key = (other : RowKey) → IsAbove rows key other → ⊥

-- the row has this value, and the row is gone
abbrev pub put : RowKey → Row → Change
put key row = record { key = key; row = Some row }

abbrev pub gone : RowKey → Change
gone key = record { key = key; row = None }

-- the row of a key after a change, which is of that key or of another
abbrev pub row_after_one : Change → RowKey → Option Row → Option Row
row_after_one change key row = if is_same change.key key then change.row else row

-- after changes, the first of them first
abbrev pub row_after : List Change → RowKey → Option Row → Option Row
row_after [] key row = row
row_after (change ∷ changes) key row = row_after changes key (row_after_one change key row)

-- rows after changes
abbrev pub after_changes : List Change → Rows → Rows
after_changes changes rows key = row_after changes key (rows key)

-- the rows after changes: in order, and each key has the row that the changes lead to
pub record Becomes (before : List RowEntry) (changes : List Change) (after : List RowEntry) : Type 0 where
  pub in_order : KeysRise after
  pub rows : (key : RowKey) → row_of after key ≡ row_after changes key (row_of before key)
