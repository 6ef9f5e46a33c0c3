use Rattle.oz_rows.specs.declared.operation.Operation.TheVariants.{DropOpen}
use Rattle.oz_effects.specs.laws.Joined.{wide_is_batch}
use Rattle.oz_effects.proofs.batches.closed_sessions_are_a_batch.Goals as goal

pub returns : goal.returns
returns c = λ rows volume bucket changes fits are. wide_is_batch rows (DropOpen volume bucket) changes fits tt are
