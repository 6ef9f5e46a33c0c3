use Rattle.oz_model.specs.laws.Reaches.{reach_grows}
use Rattle.oz_model.proofs.laws.only_a_granted_block_comes_into_reach.Goals as goal

pub returns : goal.returns
returns c = λ namespace request reply block. reach_grows block namespace request reply
