use Rattle.oz_halted.specs.halting.laws.Left.{left_at_rest}
use Rattle.oz_halted.proofs.halting.laws.what_rests_is_left.Goals as goal

pub returns : goal.returns
returns c = λ opening bytes script story dn was given left gives coherent apart numbered legal fits is contents opened.
    left_at_rest opening bytes script coherent apart dn numbered story legal fits.steps was given is contents left gives opened
