use Rattle.std.proofs.Common.{take}
use Rattle.std.specs.List.{All}
use Rattle.oz_core.specs.declared.opening.Unretired.{Unretired}
use Rattle.oz_node_law.specs.Words.{IsApplied}
use Rattle.oz_node_law.proofs.deletes.was_applied.Given as goal

abbrev pub invariant-loop-unretired : goal.invariant-loop-unretired
invariant-loop-unretired l = All (λ (unretired : Unretired). ¬ IsApplied l.fn.opening l.fn.story l.dn l.number l.fn.locals unretired.txn) (take l.unretired-index l.fn.opening.unretired)
