use Rattle.oz_loaded.proofs.standing_lemmas.Walking.{Walked}
use Rattle.oz_loaded.proofs.standing.volumes.put_from.Given as goal

abbrev pub invariant-loop : goal.invariant-loop
invariant-loop l = Walked l.tables.rows l.fn.made l.made l.last
