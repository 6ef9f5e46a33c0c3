use Rattle.std.proofs.Common.{◌≡◌, ℕ, List, length, map, rules, subst, sym}
use Rattle.oz_datanode.specs.Datanode.{State as Datanode, node_in}
use Rattle.oz_scm.specs.Scm.{State as Scm}
use Rattle.oz_world.specs.Disk.{seen}
use Rattle.oz_nodes_loaded.specs.Ids.{AreBelow}
use Rattle.oz_nodes_loaded.specs.Loads.{AreNodesFrom, IsScmFrom}
use Rattle.oz_nodes_loaded.proofs.Comparing.{ok_so, err_so, scm_leaves, ended_so, ids_so, ids_leave}
use Rattle.oz_nodes_loaded.proofs.Itself.{nodes_themselves}
use Rattle.oz_nodes_loaded.proofs.order.load_nodes.Goals as goal

pub returns-in-Err-clause-nodes_left : goal.returns-in-Err-clause-nodes_left
returns-in-Err-clause-nodes_left g c = nodes_themselves (λ (d : g.row.D.Denot). seen (g.D.Disk.told d) (g.D.Disk.clock d) (g.D.Disk.image d) (g.D.Disk.faults d)) c.args.nodes.items

pub returns-in_default-clause-nodes_left : goal.returns-in_default-clause-nodes_left
returns-in_default-clause-nodes_left g c = nodes_themselves (λ (d : g.row.D.Denot). seen (g.D.Disk.told d) (g.D.Disk.clock d) (g.D.Disk.image d) (g.D.Disk.faults d)) c.args.nodes.items

pub returns-in-Ok-load_datanodes-clause-scm : goal.returns-in-Ok-load_datanodes-clause-scm
returns-in-Ok-load_datanodes-clause-scm g c =
    let see = (λ (d : g.row.D.Denot). seen (g.D.Disk.told d) (g.D.Disk.clock d) (g.D.Disk.image d) (g.D.Disk.faults d)) in
    let number : c.len-given.result ≡ length c.args.nodes.items = search rules in
    let from = subst (λ (n : ℕ). IsScmFrom see n c.args.scm c.in-Ok.scm) number c.in-Ok.ensures.scm in
    ok_so _ _ c.compared.result c.compared.ensures.agrees (λ loaded so. subst (λ (scm : Scm g.row.D.Denot). IsScmFrom see (length c.args.nodes.items) c.args.scm scm) (sym so.scm_same) from)

pub returns-in-Ok-load_datanodes-clause-nodes : goal.returns-in-Ok-load_datanodes-clause-nodes
returns-in-Ok-load_datanodes-clause-nodes g c =
    ok_so _ _ c.compared.result c.compared.ensures.agrees (λ loaded so. subst (λ (l : List (Datanode g.row.D.Denot)). AreNodesFrom (λ (d : g.row.D.Denot). seen (g.D.Disk.told d) (g.D.Disk.clock d) (g.D.Disk.image d) (g.D.Disk.faults d)) 0 c.args.nodes.items l) (sym so.nodes_same) c.in-Ok-load_datanodes.ensures.nodes)

pub returns-in-Ok-load_datanodes-clause-fresh : goal.returns-in-Ok-load_datanodes-clause-fresh
returns-in-Ok-load_datanodes-clause-fresh g c =
    ok_so _ _ c.compared.result c.compared.ensures.agrees (λ loaded so. subst (λ (l : List (Datanode g.row.D.Denot)). AreBelow c.args.greatest (map node_in l) loaded.scm.made.next_id) (sym so.nodes_same) (subst (λ (scm : Scm g.row.D.Denot). AreBelow c.args.greatest (map node_in c.in-Ok-load_datanodes.nodes.items) scm.made.next_id) (sym so.scm_same) so.below))

pub returns-in-Ok-load_datanodes-clause-so : goal.returns-in-Ok-load_datanodes-clause-so
returns-in-Ok-load_datanodes-clause-so g c =
    let see = (λ (d : g.row.D.Denot). seen (g.D.Disk.told d) (g.D.Disk.clock d) (g.D.Disk.image d) (g.D.Disk.faults d)) in
    let number : c.len-given.result ≡ length c.args.nodes.items = search rules in
    let from = subst (λ (n : ℕ). IsScmFrom see n c.args.scm c.in-Ok.scm) number c.in-Ok.ensures.scm in
    err_so _ _ c.compared.result c.compared.ensures.not (λ refused not. ids_so see c.args.greatest c.args.scm c.args.nodes.items c.in-Ok.scm from refused.scm refused.nodes.items refused.fault c.in-Ok-load_datanodes.nodes.items c.in-Ok-load_datanodes.ensures.nodes not)

pub returns-in-Ok-load_datanodes-clause-scm_left : goal.returns-in-Ok-load_datanodes-clause-scm_left
returns-in-Ok-load_datanodes-clause-scm_left g c =
    let see = (λ (d : g.row.D.Denot). seen (g.D.Disk.told d) (g.D.Disk.clock d) (g.D.Disk.image d) (g.D.Disk.faults d)) in
    let number : c.len-given.result ≡ length c.args.nodes.items = search rules in
    let from = subst (λ (n : ℕ). IsScmFrom see n c.args.scm c.in-Ok.scm) number c.in-Ok.ensures.scm in
    err_so _ _ c.compared.result c.compared.ensures.not (λ refused not. scm_leaves see c.args.greatest c.args.scm c.args.nodes.items c.in-Ok.scm from refused.scm refused.nodes.items refused.fault not.scm_came_back)

pub returns-in-Ok-load_datanodes-clause-nodes_left : goal.returns-in-Ok-load_datanodes-clause-nodes_left
returns-in-Ok-load_datanodes-clause-nodes_left g c =
    let see = (λ (d : g.row.D.Denot). seen (g.D.Disk.told d) (g.D.Disk.clock d) (g.D.Disk.image d) (g.D.Disk.faults d)) in
    let number : c.len-given.result ≡ length c.args.nodes.items = search rules in
    let from = subst (λ (n : ℕ). IsScmFrom see n c.args.scm c.in-Ok.scm) number c.in-Ok.ensures.scm in
    err_so _ _ c.compared.result c.compared.ensures.not (λ refused not. ids_leave see c.args.greatest c.args.scm c.args.nodes.items c.in-Ok.scm from refused.scm refused.nodes.items refused.fault c.in-Ok-load_datanodes.nodes.items c.in-Ok-load_datanodes.ensures.nodes not)

pub returns-in-Err-load_datanodes-clause-so : goal.returns-in-Err-load_datanodes-clause-so
returns-in-Err-load_datanodes-clause-so g c =
    let see = (λ (d : g.row.D.Denot). seen (g.D.Disk.told d) (g.D.Disk.clock d) (g.D.Disk.image d) (g.D.Disk.faults d)) in
    let number : c.len-given.result ≡ length c.args.nodes.items = search rules in
    let from = subst (λ (n : ℕ). IsScmFrom see n c.args.scm c.in-Ok.scm) number c.in-Ok.ensures.scm in
    ended_so see c.args.greatest c.args.scm c.args.nodes.items c.in-Ok.scm from c.into_disk-in-Err-load_datanodes.result c.in-Err-load_datanodes.nodes.items c.in-Err-load_datanodes.fault c.into_disk-in-Err-load_datanodes.ensures c.in-Err-load_datanodes.ensures.ends
