use Rattle.oz_owned.specs.laws.Standing.{used_is_kept_there}
use Rattle.oz_om.specs.laws.Runs.{run_stood}
use Rattle.oz_om.proofs.standing.a_run_keeps_used_blocks.Goals as goal

pub returns : goal.returns
returns c = λ opening bytes loaded story front more last block store legal parts run used. used_is_kept_there opening bytes loaded story front more
    last block store legal parts (λ stripe few. run_stood opening loaded story stripe (last stripe) legal (run stripe few)) used
