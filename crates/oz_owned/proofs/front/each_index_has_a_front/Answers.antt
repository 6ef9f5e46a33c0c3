use Rattle.oz_owned.specs.laws.Front.{front_of}
use Rattle.oz_owned.proofs.front.each_index_has_a_front.Goals as goal

pub returns : goal.returns
returns c = λ opening story most legal. front_of opening story most legal
