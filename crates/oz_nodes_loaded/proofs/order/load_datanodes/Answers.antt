use Rattle.std.proofs.Common.{◌≡◌, ℕ, List, [], ap, length, reverse, rules, subst, sym, ◌∙◌}
use Rattle.std.proofs.lemmas.List.{reverse-reverse}
use Rattle.oz_datanode.specs.declared.disks.NodeDisks.{NodeDisks}
use Rattle.oz_world.specs.Disk.{seen}
use Rattle.oz_nodes_loaded.specs.Loads.{IsNodeFrom}
use Rattle.oz_nodes_loaded.proofs.Loading.{begins, ends, goes_on}
use Rattle.oz_nodes_loaded.proofs.Refusing.{ends_with, leaves_all}
use Rattle.oz_nodes_loaded.proofs.order.load_datanodes.Goals as goal

pub loop-disks-init : goal.loop-disks-init
loop-disks-init g c = record {
  parts = begins (λ (d : g.row.D.Denot). seen (g.D.Disk.told d) (g.D.Disk.clock d) (g.D.Disk.image d) (g.D.Disk.faults d)) c.args.nodes.items c.reverse.new.self.items c.args.room.items (sym (ap (λ (l : List (NodeDisks g.row.D.Denot)). reverse l) c.reverse.ensures.items ∙ reverse-reverse c.args.nodes.items)) c.requires.empty;
  count = search rules;
  behind_room = search rules;
  loaded_room = search rules;
}

pub loop-disks-preserved : goal.loop-disks-preserved
loop-disks-preserved g c =
    let see = (λ (d : g.row.D.Denot). seen (g.D.Disk.told d) (g.D.Disk.clock d) (g.D.Disk.image d) (g.D.Disk.faults d)) in
    let number : c.len.result ≡ length c.loop-disks.loaded.items = search rules in record {
      parts = goes_on see c.args.nodes.items c.loop-disks.behind.items c.pop.new.self.items c.loop-disks.loaded.items c.push_reserved.new.self.items c.in-Some.disks c.in-Ok.node c.loop-disks.invariant.parts c.in-Some.ensures.items c.push_reserved.ensures.items (subst (λ (n : ℕ). IsNodeFrom see n c.in-Some.disks c.in-Ok.node) number c.in-Ok.ensures.node);
      count = search rules;
      behind_room = search rules;
      loaded_room = search rules;
    }

pub returns-in-Err-clause-ends : goal.returns-in-Err-clause-ends
returns-in-Err-clause-ends g c =
    let number : c.len.result ≡ length c.loop-disks.loaded.items = search rules in
    ends_with (λ (d : g.row.D.Denot). seen (g.D.Disk.told d) (g.D.Disk.clock d) (g.D.Disk.image d) (g.D.Disk.faults d)) c.args.nodes.items c.loop-disks.behind.items c.pop.new.self.items c.push_reserved-in-Err.new.self.items c.put_back.result.items c.loop-disks.loaded.items c.in-Some.disks c.in-Err.disks c.len.result c.in-Err.ensures.says.fault_of c.in-Err.fault c.loop-disks.invariant.parts c.in-Some.ensures.items c.push_reserved-in-Err.ensures.items c.put_back.ensures number c.in-Err.ensures.says.is c.in-Err.ensures.says.says

pub returns-in-Err-clause-left : goal.returns-in-Err-clause-left
returns-in-Err-clause-left g c =
    leaves_all (λ (d : g.row.D.Denot). seen (g.D.Disk.told d) (g.D.Disk.clock d) (g.D.Disk.image d) (g.D.Disk.faults d)) c.args.nodes.items c.loop-disks.behind.items c.pop.new.self.items c.push_reserved-in-Err.new.self.items c.put_back.result.items c.loop-disks.loaded.items c.in-Some.disks c.in-Err.disks c.loop-disks.invariant.parts c.in-Some.ensures.items c.push_reserved-in-Err.ensures.items c.put_back.ensures c.in-Err.ensures.left

pub returns-clause-nodes : goal.returns-clause-nodes
returns-clause-nodes g c =
    let none : c.loop-disks.behind.items ≡ [] = search rules in
    ends (λ (d : g.row.D.Denot). seen (g.D.Disk.told d) (g.D.Disk.clock d) (g.D.Disk.image d) (g.D.Disk.faults d)) c.args.nodes.items c.loop-disks.behind.items c.loop-disks.loaded.items c.loop-disks.invariant.parts none
