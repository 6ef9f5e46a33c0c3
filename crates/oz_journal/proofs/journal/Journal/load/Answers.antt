use Rattle.oz_journal.proofs.journal.Journal.load.Goals as goal

pub returns-in-Ok-clause-stable : goal.returns-in-Ok-clause-stable
returns-in-Ok-clause-stable g c bytes tells = (c.in-Ok.ensures.at_rest bytes tells).stable
