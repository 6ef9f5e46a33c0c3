use Rattle.oz_sound.specs.laws.VolumeRows.{makes_a_volume}
use Rattle.oz_sound.proofs.standing.a_row_makes_a_volume.Goals as goal

pub returns : goal.returns
returns c = makes_a_volume
