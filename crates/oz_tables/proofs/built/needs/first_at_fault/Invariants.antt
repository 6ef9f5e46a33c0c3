use Rattle.std.proofs.Common.{take, drop}
use Rattle.oz_effects.specs.Build.{NoneAtFault}
use Rattle.oz_tables.specs.built.Steps.{operations_of}
use Rattle.oz_tables.proofs.built.needs.first_at_fault.Given as goal

abbrev pub invariant-loop-at : goal.invariant-loop-at
invariant-loop-at l = NoneAtFault l.tables.rows (operations_of l.steps) (operations_of (take l.at l.steps)) (operations_of (drop l.at l.steps))
