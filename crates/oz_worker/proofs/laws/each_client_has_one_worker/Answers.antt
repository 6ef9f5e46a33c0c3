use Rattle.std.proofs.Common.{◌-◌}
use Rattle.std.proofs.lemmas.Nat.{mod_below}
use Rattle.oz_worker.proofs.Dealt.{alone, dealt}
use Rattle.oz_worker.proofs.laws.each_client_has_one_worker.Goals as goal

pub returns-clause-dealt : goal.returns-clause-dealt
returns-clause-dealt c workers client count some first known = (mod_below (client - 1) workers some, dealt workers client count first known)

pub returns-clause-alone : goal.returns-clause-alone
returns-clause-alone c workers place client count there = alone workers place client count there
