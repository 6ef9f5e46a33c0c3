use Rattle.std.proofs.Common.{ℕ}
use Rattle.oz_core.specs.Nodes.{holds}
use Rattle.oz_node_law.proofs.Applied.{IsSoFar}
use Rattle.oz_node_law.proofs.deletes.are_held.Given as goal

abbrev pub invariant-loop-local : goal.invariant-loop-local
invariant-loop-local l = IsSoFar (λ (local : ℕ). holds l.fn.opening l.fn.story l.dn (record { container = l.container; local = local })) l.fn.all l.locals l.local-index l.next
