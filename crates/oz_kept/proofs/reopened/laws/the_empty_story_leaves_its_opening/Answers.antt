use Rattle.oz_kept.specs.reopened.laws.Start.{left_as_it_was}
use Rattle.oz_kept.proofs.reopened.laws.the_empty_story_leaves_its_opening.Goals as goal

pub returns : goal.returns
returns c = λ opening bytes script coherent apart. left_as_it_was opening bytes script coherent apart
