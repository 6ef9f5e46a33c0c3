use Rattle.oz_sound.specs.laws.VolumeRows.{nothing_stands}
use Rattle.oz_sound.proofs.standing.no_rows_stand_for_nothing.Goals as goal

pub returns : goal.returns
returns c = nothing_stands
