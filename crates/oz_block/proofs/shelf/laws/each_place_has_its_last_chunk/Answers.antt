use Rattle.oz_block.proofs.shelf_lemmas.Rising.{own_place, other_place, more_rise, left_rise}
use Rattle.oz_block.proofs.shelf.laws.each_place_has_its_last_chunk.Goals as goal

pub returns-clause-own : goal.returns-clause-own
returns-clause-own c = own_place

pub returns-clause-others : goal.returns-clause-others
returns-clause-others c = other_place

pub returns-clause-more : goal.returns-clause-more
returns-clause-more c = more_rise

pub returns-clause-fewer : goal.returns-clause-fewer
returns-clause-fewer c = left_rise
