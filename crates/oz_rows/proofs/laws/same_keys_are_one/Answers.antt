use Rattle.oz_rows.specs.laws.Same.{same_is_one}
use Rattle.oz_rows.proofs.laws.same_keys_are_one.Goals as goal

pub returns : goal.returns
returns c = same_is_one
