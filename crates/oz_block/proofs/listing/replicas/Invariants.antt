use Rattle.std.proofs.Common.{◌≡◌, ◌++◌, map}
use Rattle.oz_block.specs.Lists.{replica_state}
use Rattle.oz_block.proofs.listing.replicas.Given as goal

abbrev pub invariant-loop-container : goal.invariant-loop-container
invariant-loop-container l = l.states.items ++ map replica_state l.container-iterator ≡ map replica_state l.replicas.entries
