use Rattle.oz_asker.specs.telling.laws.Told.{told_later, told_now}
use Rattle.oz_asker.proofs.telling.laws.what_was_told_stays.Goals as goal

pub returns-clause-now : goal.returns-clause-now
returns-clause-now c story seat client line answer = told_now story seat client line answer

pub returns-clause-later : goal.returns-clause-later
returns-clause-later c story later client line begins told = told_later client line story later begins told
