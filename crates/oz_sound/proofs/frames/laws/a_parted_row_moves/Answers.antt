use Rattle.oz_sound.specs.frames.laws.Parting.{parted_moves}
use Rattle.oz_sound.proofs.frames.laws.a_parted_row_moves.Goals as goal

pub returns : goal.returns
returns c = parted_moves
