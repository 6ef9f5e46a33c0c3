use Rattle.oz_kept.specs.laws.Reached.{never_back}
use Rattle.oz_kept.proofs.laws.what_left_reach_never_returns.Goals as goal

pub returns : goal.returns
returns c = λ opening story block place later legal le used away reached. never_back opening story block place later legal le used away reached
