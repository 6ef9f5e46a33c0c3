use Rattle.oz_rows.specs.RowMaps.{Rows}
use Rattle.oz_loaded.specs.standing.Standing.{AreStripesOf}
use Rattle.oz_loaded.proofs.standing_lemmas.Striped.{BelowAre}
use Rattle.oz_loaded.proofs.standing.namespace.volumes_of.Given as goal

abbrev pub invariant-loop-part : goal.invariant-loop-part
invariant-loop-part l = (all : Rows) → AreStripesOf all l.parts → BelowAre all l.part-index l.made
