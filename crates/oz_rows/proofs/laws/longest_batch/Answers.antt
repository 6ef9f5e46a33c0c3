use Rattle.oz_rows.specs.laws.Sizes.{operation_size, purge_size}
use Rattle.oz_rows.proofs.laws.longest_batch.Goals as goal

pub returns-clause-operation : goal.returns-clause-operation
returns-clause-operation c = operation_size

pub returns-clause-removals : goal.returns-clause-removals
returns-clause-removals c = purge_size
