use Rattle.std.proofs.Common.{◌≡◌, length}
use Rattle.oz_tables.specs.built.Steps.{StepsLead}
use Rattle.oz_tables.proofs.built.body.batch.Given as goal

abbrev pub invariant-loop-rest : goal.invariant-loop-rest
invariant-loop-rest l = record {
  last_index : l.tables.last_index ≡ l.fn.tables.last_index;
  lead : StepsLead l.fn.tables.rows l.bytes l.steps.items l.rest l.tables.rows;
}

abbrev pub decreases-loop-rest : goal.decreases-loop-rest
decreases-loop-rest l = length l.rest
