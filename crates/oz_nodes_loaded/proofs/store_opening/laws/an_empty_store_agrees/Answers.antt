use Rattle.oz_nodes_loaded.specs.store_opening.laws.Empty.{no_bodies_hold_nothing, nothing_agrees, nothing_below}
use Rattle.oz_nodes_loaded.proofs.store_opening.laws.an_empty_store_agrees.Goals as goal

pub returns-clause-agree : goal.returns-clause-agree
returns-clause-agree g c = λ unseated namespace made nodes bytes none no_log. nothing_agrees nodes none unseated namespace made bytes no_log

pub returns-clause-below : goal.returns-clause-below
returns-clause-below g c = λ count nodes none. nothing_below count nodes none

pub returns-clause-unwritten : goal.returns-clause-unwritten
returns-clause-unwritten g c = λ node makes. no_bodies_hold_nothing node makes
