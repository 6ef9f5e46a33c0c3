use Rattle.std.proofs.Common.{ap}
use Rattle.oz_rows.specs.declared.key.RowKey.{RowKey}
use Rattle.oz_rows.specs.declared.row.Row.{Row}
use Rattle.oz_rows.specs.Rows.{RowFits, row_bytes}
use Rattle.oz_rows.specs.Reading.{row_at}
use Rattle.oz_rows.specs.laws.RowReads.{row_reads}
use Rattle.oz_rows.proofs.Spellings.{told}
use Rattle.oz_rows.proofs.laws.one_row_for_a_spelling.Goals as goal

pub returns : goal.returns
returns c = λ key other row value rest left fits other_fits e.
    let same = told (λ (pair : RowKey × Row). RowFits pair.0 pair.1) (λ pair. row_bytes pair.0 pair.1) row_at row_reads (key, row) (other, value) rest left fits other_fits e in
    (ap (λ (pair : RowKey × Row). pair.0) same.0, ap (λ (pair : RowKey × Row). pair.1) same.0, same.1)
