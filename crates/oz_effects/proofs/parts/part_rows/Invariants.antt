use Rattle.std.proofs.Common.{List}
use Rattle.oz_rows.specs.declared.entry.RowEntry.{RowEntry}
use Rattle.oz_rows.specs.RowMaps.{AreRows}
use Rattle.oz_effects.specs.Parts.{front_of}
use Rattle.oz_effects.proofs.Gathering.{Gathered}
use Rattle.oz_effects.proofs.parts.part_rows.Given as goal

abbrev pub invariant-loop : goal.invariant-loop
invariant-loop g l = (all : List RowEntry) → AreRows all (g.M.RowMap.rows l.rows) → Gathered (front_of l.part l.volume l.bucket) all l.found.items l.last
