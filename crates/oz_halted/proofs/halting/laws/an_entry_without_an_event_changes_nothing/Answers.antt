use Rattle.oz_halted.specs.halting.laws.Making.{of_drop, of_set_state}
use Rattle.oz_halted.proofs.halting.laws.an_entry_without_an_event_changes_nothing.Goals as goal

pub returns-clause-state : goal.returns-clause-state
returns-clause-state c = λ opening story dn container state was is shut. of_set_state opening story dn container state was is shut

pub returns-clause-dropped : goal.returns-clause-dropped
returns-clause-dropped c = λ opening story dn container was is none shut. of_drop opening story dn container was is none shut
