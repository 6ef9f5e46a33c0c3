use Rattle.oz_rows.specs.declared.operation.Operation.TheVariants.{DropKeys}
use Rattle.oz_effects.specs.laws.Joined.{wide_is_batch}
use Rattle.oz_effects.proofs.batches.dropped_keys_are_a_batch.Goals as goal

pub returns : goal.returns
returns c = λ rows volume bucket number changes fits are. wide_is_batch rows (DropKeys volume bucket number) changes fits tt are
