use Rattle.oz_halted.specs.halting.laws.Going.{entry_is_allowed}
use Rattle.oz_halted.proofs.halting.laws.an_entry_more_is_allowed.Goals as goal

pub returns : goal.returns
returns c = λ opening bytes script before dn was entry numbered legal is made. entry_is_allowed opening bytes script numbered before legal dn was is entry made
