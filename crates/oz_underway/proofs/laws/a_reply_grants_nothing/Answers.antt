use Rattle.oz_underway.specs.laws.Blocks.{nothing_granted}
use Rattle.oz_underway.proofs.laws.a_reply_grants_nothing.Goals as goal

pub returns : goal.returns
returns c namespace request reply answers other = nothing_granted namespace request reply other answers
