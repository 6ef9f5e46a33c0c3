use Rattle.oz_service.specs.laws.Still.{drain_done_still, held_still}
use Rattle.oz_service.proofs.drains.a_drains_end_stays.Goals as goal

pub returns-clause-done : goal.returns-clause-done
returns-clause-done c = λ opening place behind start line it legal gave is done. drain_done_still opening place behind legal gave line start is it done

pub returns-clause-held : goal.returns-clause-held
returns-clause-held c = λ opening place behind start line dn legal gave is held. held_still opening place behind legal gave line start is dn held
