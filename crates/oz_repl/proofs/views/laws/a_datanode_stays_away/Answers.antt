use Rattle.oz_repl.specs.views.laws.Untold.{away_behind, away_first, away_front, away_unput}
use Rattle.oz_repl.proofs.views.laws.a_datanode_stays_away.Goals as goal

pub returns-clause-first : goal.returns-clause-first
returns-clause-first c = away_first

pub returns-clause-more : goal.returns-clause-more
returns-clause-more c = away_behind

pub returns-clause-unput : goal.returns-clause-unput
returns-clause-unput c = λ opening dn story more. away_unput opening dn more story

pub returns-clause-front : goal.returns-clause-front
returns-clause-front c = away_front
