use Rattle.std.proofs.Common.{◌≡◌, length}
use Rattle.node_parts.proofs.nodes.nodes_of.Given as goal

abbrev pub invariant-loop-dn : goal.invariant-loop-dn
invariant-loop-dn l = length l.nodes ≡ l.count
