use Rattle.std.proofs.Common.{refl}
use Rattle.oz_core.specs.declared.event.EventKind.TheVariants.{Start, Stop}
use Rattle.oz_halted.specs.halting.laws.Making.{of_put, of_copy, of_delete, of_close, of_unchanged, of_wipe}
use Rattle.oz_halted.proofs.halting.laws.an_entry_makes_what_its_event_makes.Goals as goal

pub returns-clause-put : goal.returns-clause-put
returns-clause-put c = λ opening before dn seat was block id first row numbered legal is enabled.
    of_put opening numbered before legal dn seat was is block id first row enabled

pub returns-clause-copied : goal.returns-clause-copied
returns-clause-copied c = λ opening before dn seat was source block row numbered legal is enabled told.
    of_copy opening numbered before legal dn seat was is source block row enabled told

pub returns-clause-applied : goal.returns-clause-applied
returns-clause-applied c = λ opening before dn seat was number locals enabled numbered legal is.
    of_delete opening numbered before legal dn seat was is number locals enabled

pub returns-clause-closed : goal.returns-clause-closed
returns-clause-closed c = λ opening before dn seat was container state numbered legal is shut enabled.
    of_close opening numbered before legal dn seat was is container state shut enabled

pub returns-clause-wiped : goal.returns-clause-wiped
returns-clause-wiped c = λ opening before dn seat was numbered legal is enabled. of_wipe opening numbered before legal dn seat was is enabled

pub returns-clause-stopped : goal.returns-clause-stopped
returns-clause-stopped c = λ opening before dn seat was numbered legal is enabled.
    of_unchanged opening numbered before legal dn seat (Stop dn) enabled refl was is

pub returns-clause-started : goal.returns-clause-started
returns-clause-started c = λ opening before dn seat was numbered legal is enabled.
    of_unchanged opening numbered before legal dn seat (Start dn) enabled refl was is
