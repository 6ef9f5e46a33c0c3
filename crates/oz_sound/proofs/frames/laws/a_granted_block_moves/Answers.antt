use Rattle.oz_sound.specs.frames.laws.Granting.{block_is_granted}
use Rattle.oz_sound.proofs.frames.laws.a_granted_block_moves.Goals as goal

pub returns : goal.returns
returns c = block_is_granted
