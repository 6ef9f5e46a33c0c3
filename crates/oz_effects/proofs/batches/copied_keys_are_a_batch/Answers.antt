use Rattle.oz_rows.specs.declared.operation.Operation.TheVariants.{CopyKeys}
use Rattle.oz_effects.specs.laws.Joined.{wide_is_batch}
use Rattle.oz_effects.proofs.batches.copied_keys_are_a_batch.Goals as goal

pub returns : goal.returns
returns c = λ rows volume bucket number changes fits are. wide_is_batch rows (CopyKeys volume bucket number) changes fits tt are
