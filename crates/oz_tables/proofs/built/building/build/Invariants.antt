use Rattle.oz_tables.proofs.built_lemmas.Journals.{BuiltSoFar}
use Rattle.oz_tables.proofs.built.building.build.Given as goal

abbrev pub invariant-loop-count : goal.invariant-loop-count
invariant-loop-count l = BuiltSoFar l.bodies l.count l.tables l.head
