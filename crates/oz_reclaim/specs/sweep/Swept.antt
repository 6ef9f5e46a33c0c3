-- What a sweep has of rows: their dead ones, but for what is noted.
use Rattle.std.specs.Prelude.{◌≡◌, ℕ, false, List, Some}
use Rattle.oz_reclaim.specs.declared.sweep.notes.Note.{Note}
use Rattle.oz_reclaim.specs.sweep.Dead.{IsDeadRow}
use Rattle.oz_reclaim.specs.sweep.Kept.{AreRightBut}
use Rattle.oz_reclaim.specs.sweep.Notes.{names, touches_home, up_to}
use Rattle.oz_reclaim.specs.sweep.View.{SweepView, dead_of}
use Rattle.oz_rows.specs.declared.key.RowKey.{RowKey}
use Rattle.oz_rows.specs.declared.row.Row.{Row}
use Rattle.oz_rows.specs.Rows.{kind_of}
use Rattle.oz_rows.specs.RowMaps.{Rows}

-- It has the dead rows among these, but for the rows that these notes name and those of buckets of whose snapshots there are
-- notes. As long as it is new, it may lack any.
pub record IsSweptBut (notes : List Note) (all : Rows) (sweep : SweepView) : Type 0 where
  pub filed : sweep.is_new ≡ false → (key : RowKey) → names notes key ≡ false → touches_home notes key ≡ false
      → IsDeadRow all key (dead_of sweep key)
  pub there : (key : RowKey) (row : Row) → dead_of sweep key ≡ Some row → names notes key ≡ false
      → (all key ≡ Some row) × (kind_of key ≡ 5)
  pub sets : AreRightBut notes all sweep.sets

-- but for what is noted up to an index
abbrev pub IsSweptTo : SweepView → ℕ → Rows → Type 0
IsSweptTo sweep upto all = IsSweptBut (up_to upto sweep.noted) all sweep

-- It has the dead rows of these, and no others.
abbrev pub IsSwept : SweepView → Rows → Type 0
IsSwept sweep all = (key : RowKey) → IsDeadRow all key (dead_of sweep key)
