-- For calls inside this crate alone.

-- Which key is the first of a deleted snapshot's row.
use Rattle.std.specs.Prelude.{◌≡◌, true}
use Rattle.oz_rows.specs.declared.key.RowKey.{RowKey}
use Rattle.oz_rows.specs.Rows.{kind_of}
use Rattle.oz_rows.specs.RowMaps.{Rows, IsBelow}
use Rattle.oz_reclaim.specs.Work.{is_marked}

-- the key is that of a snapshot
abbrev pub IsOfSnapshot : RowKey → Type 0
IsOfSnapshot key = kind_of key ≡ 6

-- a deleted snapshot has this key
abbrev pub IsMarkedKey : Rows → RowKey → Type 0
IsMarkedKey all key = IsOfSnapshot key × (is_marked (all key) ≡ true)

abbrev pub NoneMarked : Rows → Type 0
NoneMarked all = (key : RowKey) → IsMarkedKey all key → ⊥

pub record IsFirstOf (all : Rows) (key : RowKey) : Type 0 where
  pub marked : IsMarkedKey all key
  pub least : (other : RowKey) → IsMarkedKey all other → IsBelow other key → ⊥
