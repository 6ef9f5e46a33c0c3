use Rattle.oz_halted.proofs.Reopening.{left_as_told}
use Rattle.oz_halted.proofs.laws.what_a_story_leaves_it_may_leave.Goals as goal

pub returns : goal.returns
returns c = λ opening bytes script story most left given is. left_as_told opening bytes script story most left given is
