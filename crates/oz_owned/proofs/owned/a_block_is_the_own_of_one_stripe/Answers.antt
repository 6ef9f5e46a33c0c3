use Rattle.oz_owned.specs.laws.Owned.{own_once}
use Rattle.oz_owned.specs.laws.Purged.{one_id}
use Rattle.oz_owned.proofs.owned.a_block_is_the_own_of_one_stripe.Goals as goal

pub returns-clause-stripe : goal.returns-clause-stripe
returns-clause-stripe c = λ opening bytes loaded story stripe other block store legal one two. own_once opening bytes loaded store story legal block
    stripe other one two

pub returns-clause-id : goal.returns-clause-id
returns-clause-id c = λ opening bytes loaded story stripe other block twin store legal one two same. one_id opening bytes loaded store story legal
    stripe other block twin one two same
