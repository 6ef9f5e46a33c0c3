use Rattle.std.proofs.Common.{map, take}
use Rattle.oz_datanode.specs.Datanode.{node_in}
use Rattle.oz_nodes_loaded.specs.Ids.{IsGreatestSeen}
use Rattle.oz_nodes_loaded.proofs.ids.greatest_seen.Given as goal

abbrev pub invariant-loop-node : goal.invariant-loop-node
invariant-loop-node g l = IsGreatestSeen l.greatest (map node_in (take l.node-index l.nodes)) l.seen
