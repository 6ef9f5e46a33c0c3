use Rattle.oz_asker.specs.laws.Indexes.{index_covers}
use Rattle.oz_asker.proofs.laws.an_index_covers_those_before.Goals as goal

pub returns : goal.returns
returns c opening story place before seat other index lower id one reply answer batch bytes legal lt is was =
    index_covers opening story legal place before seat other index lower id one reply answer batch bytes lt is was
