use Rattle.oz_effects.specs.laws.Steps.{removal_is_batch}
use Rattle.oz_effects.proofs.batches.a_removal_is_a_batch.Goals as goal

pub returns : goal.returns
returns c = removal_is_batch
