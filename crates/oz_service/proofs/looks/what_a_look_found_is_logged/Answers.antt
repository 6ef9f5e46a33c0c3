use Rattle.oz_service.specs.laws.Looked.{what_a_look_found_is_logged}
use Rattle.oz_service.proofs.looks.what_a_look_found_is_logged.Goals as goal

pub returns : goal.returns
returns c = λ opening loaded all stripe front more later pins found legal stand pinned it logged block own garbage.
    what_a_look_found_is_logged opening loaded all stripe front more later pins found legal stand pinned it logged block own garbage
