-- What a sweep is to contracts.
use Rattle.std.specs.Prelude.{ℕ, Bool, List, Option}
use Rattle.oz_reclaim.specs.declared.sweep.notes.Note.{Note}
use Rattle.oz_reclaim.specs.sweep.Dates.{Dates, date_in}
use Rattle.oz_reclaim.specs.sweep.Kept.{Sets}
use Rattle.oz_rows.specs.declared.entry.RowEntry.{RowEntry}
use Rattle.oz_rows.specs.declared.key.RowKey.{RowKey}
use Rattle.oz_rows.specs.declared.row.Row.{Row}
use Rattle.oz_rows.specs.RowMaps.{row_of}

-- What was noted of the transactions that were entered, and of the one that comes next. The dead rows with their dates, and the
-- sets of blocks that were read of buckets. It is new as long as nothing was brought to it.
pub record SweepView : Type 0 where
  pub noted : List Note
  pub ready : List Note
  pub dead : List RowEntry
  pub dates : Dates
  pub sets : Sets
  pub is_new : Bool

-- the dead row that the sweep has of a key
abbrev pub dead_of : SweepView → RowKey → Option Row
dead_of sweep key = row_of sweep.dead key

-- since when its blocks are out of reach
abbrev pub date_of : SweepView → RowKey → Option ℕ
date_of sweep key = date_in sweep.dates key
