use Rattle.std.proofs.Common.{rules, ◌∙◌}
use Rattle.oz_nodes_loaded.proofs.Putting.{are_disks, one_back}
use Rattle.oz_nodes_loaded.proofs.loaded.put_back.Goals as goal

pub loop-node-preserved : goal.loop-node-preserved
loop-node-preserved g c = record {
  parts = one_back c.loop-node.nodes.items c.pop.new.self.items c.in-Some.node c.loop-node.disks.items c.push_reserved.new.self.items c.into_disks.result c.in-Some.ensures.items (are_disks c.into_disks.result c.in-Some.node c.into_disks.ensures.meta c.into_disks.ensures.slots) c.push_reserved.ensures.items
      ∙ c.loop-node.invariant.parts;
  room = search rules;
}
