use Rattle.oz_halted.specs.halting.laws.Going.{contents_last, gives_what_was_there, of_no_event}
use Rattle.oz_halted.specs.halting.laws.Making.{of_unchanged}
use Rattle.oz_halted.specs.halting.laws.Unchanged.{others_change_nothing}
use Rattle.oz_halted.proofs.halting.laws.what_is_loaded_stays.Goals as goal

pub returns-clause-loaded : goal.returns-clause-loaded
returns-clause-loaded c = λ opening bytes dn was given opened. of_no_event opening bytes dn was given opened

pub returns-clause-given : goal.returns-clause-given
returns-clause-given c = λ opening bytes script dn was given coherent opened. gives_what_was_there opening bytes dn was given opened script coherent

pub returns-clause-beside : goal.returns-clause-beside
returns-clause-beside c = λ opening before event dn was numbered legal enabled other is.
    of_unchanged opening numbered before legal dn event.seat event.kind enabled (others_change_nothing dn opening before event.seat event.kind
    enabled other) was is

pub returns-clause-contents : goal.returns-clause-contents
returns-clause-contents c = λ opening bytes script before event was given legal fits enabled its_fit contents.
    contents_last opening bytes script before legal fits.steps event enabled its_fit was given contents
