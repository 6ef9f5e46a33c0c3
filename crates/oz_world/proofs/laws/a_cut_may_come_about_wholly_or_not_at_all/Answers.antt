use Rattle.oz_world.specs.laws.Partial.{cut_whole, cut_none}
use Rattle.oz_world.proofs.laws.a_cut_may_come_about_wholly_or_not_at_all.Goals as goal

pub returns-clause-wholly : goal.returns-clause-wholly
returns-clause-wholly c = cut_whole

pub returns-clause-not_at_all : goal.returns-clause-not_at_all
returns-clause-not_at_all c = cut_none
