use Rattle.oz_sound.specs.stripes.laws.Changes.{sessions_drop_alike}
use Rattle.oz_sound.proofs.stripes.laws.sessions_are_dropped_among_their_own.Goals as goal

pub returns : goal.returns
returns c = λ part all volume bucket rise has apart. sessions_drop_alike part volume bucket has all rise apart
