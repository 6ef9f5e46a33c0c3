use Rattle.oz_owned.specs.laws.Purged.{used_is_kept}
use Rattle.oz_owned.proofs.owned.each_used_block_has_a_home_or_is_logged.Goals as goal

pub returns : goal.returns
returns c = λ opening bytes loaded story rows block store legal kept used. used_is_kept opening bytes loaded store story legal rows kept block used
