use Rattle.oz_halted.specs.halting.laws.Lost.{missing_is_logged}
use Rattle.oz_halted.proofs.halting.laws.only_what_is_logged_is_missing.Goals as goal

pub returns : goal.returns
returns c = λ opening bytes script before behind dn count was kept entry block numbered legal stands made may held gone.
    missing_is_logged opening bytes script numbered dn before behind count legal was stands entry made kept may block held gone
