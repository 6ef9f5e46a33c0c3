use Rattle.oz_world.specs.laws.Partial.{cut_keeps}
use Rattle.oz_world.proofs.laws.a_cut_in_part_keeps_what_stands_before_it.Goals as goal

pub returns : goal.returns
returns c = cut_keeps
