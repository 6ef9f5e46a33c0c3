use Rattle.oz_effects.specs.laws.Steps.{nothing_is_batch}
use Rattle.oz_effects.proofs.batches.no_bytes_are_no_changes.Goals as goal

pub returns : goal.returns
returns c = nothing_is_batch
