use Rattle.oz_rows.specs.declared.operation.Operation.TheVariants.{MoveDeleted}
use Rattle.oz_effects.specs.laws.Joined.{wide_is_batch}
use Rattle.oz_effects.proofs.batches.moved_rows_are_a_batch.Goals as goal

pub returns : goal.returns
returns c = λ rows volume bucket from to changes fits are. wide_is_batch rows (MoveDeleted volume bucket from to) changes fits tt are
