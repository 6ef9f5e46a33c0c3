use Rattle.oz_sound.specs.laws.Oneness.{one_namespace}
use Rattle.oz_sound.proofs.standing.rows_stand_for_one_namespace.Goals as goal

pub returns : goal.returns
returns c = one_namespace
