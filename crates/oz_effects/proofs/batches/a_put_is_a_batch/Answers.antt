use Rattle.oz_effects.specs.laws.Steps.{put_is_batch}
use Rattle.oz_effects.proofs.batches.a_put_is_a_batch.Goals as goal

pub returns : goal.returns
returns c = put_is_batch
