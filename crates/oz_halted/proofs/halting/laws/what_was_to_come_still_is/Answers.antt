use Rattle.oz_halted.specs.halting.laws.Beside.{to_apply_beside, to_make_beside, to_put_beside}
use Rattle.oz_halted.proofs.halting.laws.what_was_to_come_still_is.Goals as goal

pub returns-clause-unlogged : goal.returns-clause-unlogged
returns-clause-unlogged c = λ opening bytes script before event dn was entry numbered legal fits enabled its_fit other unlogged made.
    to_make_beside opening bytes script numbered before legal fits.steps event enabled its_fit dn other unlogged was entry made

pub returns-clause-put : goal.returns-clause-put
returns-clause-put c = λ opening bytes script before event dn block row numbered legal fits enabled its_fit other put.
    to_put_beside opening bytes script numbered before legal fits.steps event enabled its_fit dn other block row put

pub returns-clause-applied : goal.returns-clause-applied
returns-clause-applied c = λ opening bytes script before event dn txn numbered legal fits enabled its_fit other apply.
    to_apply_beside opening bytes script numbered before legal fits.steps event enabled its_fit dn other txn apply
