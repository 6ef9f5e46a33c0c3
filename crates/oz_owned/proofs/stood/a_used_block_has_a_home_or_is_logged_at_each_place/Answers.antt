use Rattle.oz_owned.specs.laws.Standing.{used_is_kept_there}
use Rattle.oz_owned.proofs.stood.a_used_block_has_a_home_or_is_logged_at_each_place.Goals as goal

pub returns : goal.returns
returns c = λ opening bytes loaded story front more last block store legal parts stood used. used_is_kept_there opening bytes loaded story front more
    last block store legal parts stood used
