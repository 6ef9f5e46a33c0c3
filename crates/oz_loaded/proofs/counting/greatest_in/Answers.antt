use Rattle.std.proofs.Common.{sym, subst}
use Rattle.oz_rows.specs.RowMaps.{row_of}
use Rattle.oz_loaded.specs.Counted.{IsGreatestId}
use Rattle.oz_loaded.proofs.Greatest.{is_greatest}
use Rattle.oz_loaded.proofs.counting.greatest_in.Goals as goal

pub returns : goal.returns
returns c = subst (IsGreatestId (row_of c.args.rows.now)) (sym c.greatest_of_rows.ensures) (is_greatest c.args.rows.now c.requires)
