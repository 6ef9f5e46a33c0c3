use Rattle.std.proofs.Common.{◌≡◌, ℕ, ◌+◌, not, List, Option, is_some, option_and_then, arith, sym, ◌∙◌, ap, subst}
use Rattle.std.specs.Prelude.{All, IsSome}
use Rattle.oz_core.specs.Nodes.{was_closed, was_held}
use Rattle.oz_datanode.specs.Datanode.{State as Datanode, meta_of, node_in}
use Rattle.oz_datanode.specs.declared.disks.NodeDisks.{NodeDisks}
use Rattle.oz_entries.specs.Node.{is_held}
use Rattle.oz_entries.specs.declared.row.BlockRow.{BlockRow}
use Rattle.oz_fields.specs.declared.block.Block.{Block}
use Rattle.oz_kept.specs.reopened.Left.{was_greatest}
use Rattle.oz_nodes_loaded.specs.store_opening.Openings.{bytes_on, opened_node, opening_bytes, opening_of}
use Rattle.oz_world.specs.Disk.{seen}
use Rattle.oz_nodes_loaded.proofs.nodes_opened_lemmas.Contents.{loaded_pairs, opened_bytes, tells_still}
use Rattle.oz_nodes_loaded.proofs.nodes_opened_lemmas.Nodes.{disks_at, from_at, open_alike, there_at, told_stands}
use Rattle.oz_nodes_loaded.proofs.nodes_opened.laws.loaded_datanodes_stand_for_the_opening.Goals as goal

pub returns-clause-number : goal.returns-clause-number
returns-clause-number g c = λ disks nodes dn node are at.
    let from = from_at (λ (d : g.row.D.Denot). seen (g.D.Disk.told d) (g.D.Disk.clock d) (g.D.Disk.image d) (g.D.Disk.faults d)) 0 disks nodes are dn node at in
    let number = from.1.id in
    omega (arith, number)

pub returns-clause-runs : goal.returns-clause-runs
returns-clause-runs g c = λ disks nodes dn node are at.
    (from_at (λ (d : g.row.D.Denot). seen (g.D.Disk.told d) (g.D.Disk.clock d) (g.D.Disk.image d) (g.D.Disk.faults d)) 0 disks nodes are dn node at).1.running

pub returns-clause-there : goal.returns-clause-there
returns-clause-there g c = λ unseated namespace made nodes dn node at. there_at (λ (n : Datanode g.row.D.Denot). opened_node n.blocks.held) nodes dn node at

pub returns-clause-numbered : goal.returns-clause-numbered
returns-clause-numbered g c = λ disk scm disks nodes unseated namespace from are.
    (c.a_loaded_scm_stands_for_the_opening.ensures.ordered disk scm disks nodes unseated namespace from are).old

pub returns-clause-journal : goal.returns-clause-journal
returns-clause-journal g c = λ disks nodes dn node tell are at.
    let from = disks_at (λ (d : g.row.D.Denot). seen (g.D.Disk.told d) (g.D.Disk.clock d) (g.D.Disk.image d) (g.D.Disk.faults d))
    (λ (own : NodeDisks g.row.D.Denot). IsSome (g.D.Disk.told own.meta)) 0 disks nodes are tell dn node at in
    told_stands (g.D.Disk.told from.0.meta) (g.D.Disk.told (meta_of node)) (node_in node) from.1.1 from.1.0.stands from.1.0.closed from.1.0.meta.contents

pub returns-clause-opened : goal.returns-clause-opened
returns-clause-opened g c = λ all unseated namespace made disks nodes dn node tell are agree at.
    let see = λ (d : g.row.D.Denot). seen (g.D.Disk.told d) (g.D.Disk.clock d) (g.D.Disk.image d) (g.D.Disk.faults d) in
    let has = c.an_opening_has_what_was_loaded.ensures in
    let both = λ (own : NodeDisks g.row.D.Denot). IsSome (g.D.Disk.told own.meta) × IsSome (g.D.Disk.told own.slots) in
    let journals : All (λ (own : NodeDisks g.row.D.Denot). IsSome (g.D.Disk.told own.meta)) disks = λ k own there. (tell k own there).0 in
    let from = disks_at see both 0 disks nodes are tell dn node at in
    let number = from.1.0.id in
    let its : node.id ≡ dn = omega (arith, number) in
    let held : (block : Block) → was_held (opening_of unseated namespace made nodes) node.id block ≡ is_held (node_in node) block =
    λ block. ap (λ (n : ℕ). was_held (opening_of unseated namespace made nodes) n block) its ∙ has.held unseated namespace made nodes dn node block at in
    record {
      tells = (
        tells_still (g.D.Disk.told from.0.meta) (g.D.Disk.told (meta_of node)) from.1.1.0 from.1.0.meta.telling,
        subst (λ (o : Option (List ℕ)). IsSome o) (sym from.1.0.slots.contents) from.1.1.1,
      );
      held = held;
      whole = λ block row is. c.each_row_has_the_length_of_its_block.ensures all unseated namespace made disks nodes dn node block row journals are agree at is;
      closed = λ container. ap (λ (n : ℕ). was_closed (opening_of unseated namespace made nodes) n container) its ∙ (has.closed unseated namespace made nodes dn node container at ∙ ap not (open_alike ((node_in node).states container)));
      greatest = λ container. ap (λ (n : ℕ). was_greatest (opening_of unseated namespace made nodes) n container) its ∙ has.greatest unseated namespace made nodes dn node container at;
      contents = λ block row is.
          opened_bytes see (0 + dn) from.0 node from.1.0 from.1.1.0 c.a_journal_keeps_slots_apart.ensures.loaded
          (λ row slots content. (c.bytes_that_are_intact_have_their_digests.ensures row slots content).0) (opening_bytes see nodes) node.id block row is
          (ap (λ (n : ℕ). opening_bytes see nodes n block) its ∙ ap (option_and_then (λ (n : Datanode g.row.D.Denot). bytes_on see n block)) at)
          (agree.digests_match block node.id (held block ∙ ap (λ (o : Option BlockRow). is_some o) is));
      pairs = loaded_pairs see (0 + dn) from.0 node from.1.0 from.1.1.0 c.a_disk_stands_for_one_node.ensures.one_node
          (told_stands (g.D.Disk.told from.0.meta) (g.D.Disk.told (meta_of node)) (node_in node) from.1.1.0 from.1.0.stands from.1.0.closed from.1.0.meta.contents);
    }
