use Rattle.std.proofs.Common.{ℕ, List, [], length, Option, arith, refl, sym, ap, subst}
use Rattle.oz_datanode.specs.Datanode.{State as Datanode}
use Rattle.oz_running.specs.disk_run.Disks.{count_in}
use Rattle.oz_running.specs.disk_run.Shown.{rows_shown}
use Rattle.oz_journal.specs.Grammar.{IsJournal}
use Rattle.oz_running.proofs.disk_run_lemmas.Bodies.{told_shows}
use Rattle.oz_running.proofs.disk_run_lemmas.Coming.{idle, journals_tell, told_before}
use Rattle.oz_running.proofs.disk_run_lemmas.Opened.{journal_at, node_count, opens, shows_journal, told_some}
use Rattle.oz_running.proofs.disk_run_lemmas.Rows.{are_parts, rows_are}
use Rattle.oz_flusher.specs.Stops.{StopsHold}
use Rattle.oz_loaded.specs.standing.Shown.{namespace_shown}
use Rattle.oz_world.specs.Disk.{seen}
use Rattle.oz_running.proofs.disk_run.loaded.run_loaded.Goals as goal

pub run_told-requires-clause-opens : goal.run_told-requires-clause-opens
run_told-requires-clause-opens g c lives within =
    let see = (λ (d : g.row.D.Denot). seen (g.D.Disk.told d) (g.D.Disk.clock d) (g.D.Disk.image d) (g.D.Disk.faults d)) in
    let bodies = c.requires.loaded.0 in
    let this = c.requires.loaded.1 in
    let unseated = c.args.unseated in
    let made = c.args.scm.made in
    let nodes = c.args.nodes.items in
    let law = c.the_parts_are_the_whole.ensures in
    opens see bodies unseated this made nodes (rows_are bodies unseated this (law.there bodies unseated this) (law.same bodies unseated this))
    (c.a_batch_makes_a_body.ensures.fit bodies this.all unseated.last_index this.builds)
    (λ namespace stands sound agree. c.all_disks_are_a_store.ensures.store bodies unseated this namespace made nodes stands sound c.requires.fresh agree)

pub run_told-requires-clause-scm : goal.run_told-requires-clause-scm
run_told-requires-clause-scm g c lives within =
    let from = c.requires.others in
    let scm = c.args.scm in
    let nodes = c.args.nodes.items in
    let unseated = c.args.unseated in
    let namespace = namespace_shown unseated.parts in
    let law = c.a_loaded_scm_stands_for_the_opening.ensures in record {
      running = law.running (length from.disks) from.disk scm from.scm_from;
      nodes = law.nodes from.disk scm from.disks nodes unseated namespace from.scm_from from.nodes_from;
      next = law.next scm nodes unseated namespace;
      containers = law.containers scm nodes unseated namespace;
      up = law.up from.disk scm from.disks nodes unseated namespace from.scm_from from.nodes_from;
      log = law.deletions (length from.disks) from.disk scm nodes unseated namespace from.scm_from;
      no_fewer = omega arith;
    }

pub run_told-requires-clause-count : goal.run_told-requires-clause-count
run_told-requires-clause-count g c lives within = sym (node_count c.args.nodes.items)

pub run_told-requires-clause-nodes : goal.run_told-requires-clause-nodes
run_told-requires-clause-nodes g c lives within dn node at =
    let see = (λ (d : g.row.D.Denot). seen (g.D.Disk.told d) (g.D.Disk.clock d) (g.D.Disk.image d) (g.D.Disk.faults d)) in
    let from = c.requires.others in
    let nodes = c.args.nodes.items in
    let unseated = c.args.unseated in
    let namespace = namespace_shown unseated.parts in
    let law = c.loaded_datanodes_stand_for_the_opening.ensures in record {
      number = law.number from.disks nodes dn node from.nodes_from at;
      runs = law.runs from.disks nodes dn node from.nodes_from at;
      idle = idle see 0 from.disks nodes from.nodes_from dn node at;
      opened = λ agree.
          law.opened (rows_shown unseated.parts) unseated namespace c.args.scm.made from.disks nodes dn node (told_before see 0 from.disks nodes from.nodes_from agree.told) from.nodes_from agree.agree at;
      journal = λ agree.
          law.journal from.disks nodes dn node (journals_tell see from.disks (told_before see 0 from.disks nodes from.nodes_from agree.told)) from.nodes_from at;
    }

pub run_told-requires-clause-counted : goal.run_told-requires-clause-counted
run_told-requires-clause-counted g c lives within = record {
  of_scm = refl;
  of_each = λ dn node at. ap (λ (o : Option (Datanode g.row.D.Denot)). count_in g.D.Disk.faults o) at;
}

pub run_told-requires-clause-old : goal.run_told-requires-clause-old
run_told-requires-clause-old g c lives within agree =
    let from = c.requires.others in
    let unseated = c.args.unseated in
    c.loaded_datanodes_stand_for_the_opening.ensures.numbered from.disk c.args.scm from.disks c.args.nodes.items unseated (namespace_shown unseated.parts) from.scm_from from.nodes_from

pub run_told-requires-clause-parts : goal.run_told-requires-clause-parts
run_told-requires-clause-parts g c lives within =
    let bodies = c.requires.loaded.0 in
    let this = c.requires.loaded.1 in
    let law = c.the_parts_are_the_whole.ensures in
    are_parts bodies c.args.unseated this (law.there bodies c.args.unseated this) (law.same bodies c.args.unseated this)

pub run_told-requires-clause-journal : goal.run_told-requires-clause-journal
run_told-requires-clause-journal g c lives within =
    let D = g.D.Disk in
    let disk = c.args.flusher.disk in
    let bodies = c.requires.loaded.0 in record {
      running = c.requires.running;
      faults = refl;
      telling = (λ none. none, λ none. none);
      time = record { later = omega arith; kept = λ t left le. (λ h. h, λ h. h) };
      tells = λ coherent. shows_journal (D.told disk) bodies c.requires.loaded.2;
      stops = λ coherent some.
          let it = told_some (D.told disk) some in
          subst (λ (l : List (List ℕ)). StopsHold l [] (D.clock disk) (D.clock disk) (D.image disk)) (sym (told_shows (D.told disk) bodies some c.requires.loaded.2))
          (c.a_journal_at_rest_stands.ensures disk it.0 bodies (journal_at (D.told disk) (λ bytes. IsJournal bytes bodies) it.0 it.1 c.requires.loaded.2) (c.requires.stable it.0 it.1));
    }

pub run_told-requires-clause-apart : goal.run_told-requires-clause-apart
run_told-requires-clause-apart g c lives within agree =
    let from = c.requires.others in
    let unseated = c.args.unseated in
    let namespace = namespace_shown unseated.parts in
    let nodes = c.args.nodes.items in
    c.an_ordered_log_is_numbered.ensures.apart _
    (c.a_loaded_scm_stands_for_the_opening.ensures.ordered from.disk c.args.scm from.disks nodes unseated namespace from.scm_from from.nodes_from)
