use Rattle.oz_owned.specs.laws.Owned.{share_is_own}
use Rattle.oz_owned.proofs.owned.what_a_share_reaches_is_its_stripes_own.Goals as goal

pub returns : goal.returns
returns c = λ opening bytes loaded story stripe block store legal reached. share_is_own opening bytes loaded store story stripe block legal reached
