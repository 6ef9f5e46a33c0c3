use Rattle.oz_owned.specs.laws.Owned.{used_is_own}
use Rattle.oz_owned.proofs.owned.a_used_block_is_the_own_of_a_stripe.Goals as goal

pub returns : goal.returns
returns c = λ opening bytes loaded story block store legal used. used_is_own opening bytes loaded store story legal block used
