use Rattle.oz_sound.specs.stripes.laws.Leading.{batch_of_all}
use Rattle.oz_sound.proofs.stripes.laws.a_stripes_batch_is_one_of_all.Goals as goal

pub returns : goal.returns
returns c = λ stripe rows bytes changes batch own only_own apart. batch_of_all stripe rows bytes changes batch own only_own apart
