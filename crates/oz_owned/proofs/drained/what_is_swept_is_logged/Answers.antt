use Rattle.oz_owned.specs.laws.Swept.{what_is_swept_is_logged}
use Rattle.oz_owned.proofs.drained.what_is_swept_is_logged.Goals as goal

pub returns : goal.returns
returns c = λ opening loaded rows stripe front more later legal kept none block own garbage. what_is_swept_is_logged opening loaded rows stripe front
    more later legal kept none block own garbage
