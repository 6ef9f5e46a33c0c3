use Rattle.std.proofs.Common.{◌≡◌, take}
use Rattle.std.specs.List.{flat_map}
use Rattle.oz_core.specs.Nodes.{length_in}
use Rattle.oz_core.specs.Stories.{first_in}
use Rattle.oz_node_law.proofs.lengths.had_length.Given as goal

abbrev pub invariant-loop-node : goal.invariant-loop-node
invariant-loop-node l = l.length ≡ first_in (flat_map (length_in l.block) (take l.node-index l.fn.opening.nodes))
