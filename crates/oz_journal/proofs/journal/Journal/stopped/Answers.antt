use Rattle.oz_journal.proofs.Adds.{journal_of_records}
use Rattle.oz_journal.proofs.journal.Journal.stopped.Goals as goal

pub returns-clause-at_rest : goal.returns-clause-at_rest
returns-clause-at_rest g c = rw (← c.self.view_is) (λ still bytes tells.
    let rest = c.self.invariant.1 still bytes tells in
    ((rest.bodies, journal_of_records bytes rest.bodies rest.grammar), rest.stable))
