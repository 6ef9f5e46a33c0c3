use Rattle.oz_effects.specs.laws.Joined.{batches_are_one}
use Rattle.oz_effects.proofs.batches.batches_are_one_batch.Goals as goal

pub returns : goal.returns
returns c = batches_are_one
