use Rattle.std.proofs.Common.{◌≡◌, inr, ℕ, Bool, List, length, map, ap, refl, sym, ◌∙◌, subst, arith}
use Rattle.std.specs.List.{AllZip}
use Rattle.oz_core.specs.declared.event.Event.{Event}
use Rattle.oz_datanode.specs.declared.disks.NodeDisks.{NodeDisks}
use Rattle.oz_datanode.specs.Datanode.{State as Datanode, node_in}
use Rattle.oz_running.specs.declared.disk_run.disks.Disks.{Disks}
use Rattle.oz_running.specs.disk_run.Refused.{AreAtMostLoaded, IsRefusedFor}
use Rattle.oz_running.specs.disk_run.Reopens.{ScmReopens}
use Rattle.oz_running.specs.disk_run.Coherent.{IsCoherentStore}
use Rattle.oz_running.specs.disk_run.laws.Sounds.{but_renames}
use Rattle.oz_running.specs.disk_run.Disks.{counts_loaded, others_of}
use Rattle.oz_running.specs.disk_run.Shown.{ShowStore}
use Rattle.oz_running.specs.disk_run.StoreRun.{IsStoreRun}
use Rattle.oz_running.specs.disk_run.Told.{left_by, other_nodes}
use Rattle.oz_running.specs.disk_run.laws.Untouched.{nodes_as_are, scm_as_is}
use Rattle.oz_running.proofs.disk_run_lemmas.Coming.{disks_same, loaded_left, so_many}
use Rattle.oz_running.proofs.disk_run_lemmas.History.{loading_keeps, one_history, shows, told_of}
use Rattle.oz_running.proofs.disk_run_lemmas.Opened.{first_journal, node_count, tells_journal}
use Rattle.oz_running.proofs.disk_run_lemmas.Namespaces.{nodes_over, scm_over}
use Rattle.oz_running.proofs.disk_run_lemmas.Rows.{are_stripes, rows_are}
use Rattle.oz_headline.specs.halts.Disks.{AreAsMany}
use Rattle.oz_headline.specs.LoadedDisks.{LeavesJournal, LeavesNode, LeavesScm}
use Rattle.oz_headline.specs.Ids.{AreBelow}
use Rattle.oz_headline.specs.Loads.{disks_in}
use Rattle.oz_headline.specs.fault.StoreFault.{StoreFault}
use Rattle.oz_rows.specs.RowMaps.{row_of}
use Rattle.oz_loaded.specs.standing.Shown.{namespace_shown}
use Rattle.oz_headline.specs.store_opening.Openings.{opening_bytes, opening_of}
use Rattle.oz_world.specs.Disk.{seen}
use Rattle.oz_running.proofs.disk_run.over.run_over_disks.Goals as goal

pub returns-in-Err-clause-spared : goal.returns-in-Err-clause-spared
returns-in-Err-clause-spared g c =
    let D = g.D.Disk in
    let see = (λ (d : g.row.D.Denot). seen (D.told d) (D.clock d) (D.image d) (D.faults d)) in
    let before = c.args.disks in
    let kept = c.in-Err.ensures in
    let left : Disks g.row.D.Denot = record { manager = c.in-Err.manager; scm = before.scm; nodes = before.nodes } in
    let same = disks_same c.refused.result.disks left c.refused.ensures.manager c.refused.ensures.scm c.refused.ensures.nodes in
    subst (AreAtMostLoaded see before) (sym same) record {
      manager = record { telling = kept.telling; contents = kept.contents; never_falls = kept.never_falls; time = kept.time; moments = kept.moments; loadable = kept.loadable };
      scm = scm_as_is (length before.nodes.items) (see before.scm);
      nodes = nodes_as_are see before.nodes.items;
    }

pub returns-in-Err-load_nodes-clause-refused : goal.returns-in-Err-load_nodes-clause-refused
returns-in-Err-load_nodes-clause-refused g c =
    let D = g.D.Disk in
    let see = (λ (d : g.row.D.Denot). seen (D.told d) (D.clock d) (D.image d) (D.faults d)) in
    let before = c.args.disks in
    let load = c.in-Ok.ensures in
    let refused = c.in-Err-load_nodes.field-0 in
    let left : Disks g.row.D.Denot = record { manager = c.into_disk.result; scm = refused.scm; nodes = refused.nodes } in
    let same = disks_same c.refused-in-Err-load_nodes.result.disks left c.refused-in-Err-load_nodes.ensures.manager c.refused-in-Err-load_nodes.ensures.scm c.refused-in-Err-load_nodes.ensures.nodes in
    subst (λ (d : Disks g.row.D.Denot). IsRefusedFor see before d c.refused-in-Err-load_nodes.result.fault) (sym same)
    (subst (λ (f : StoreFault). IsRefusedFor see before left f) (sym c.refused-in-Err-load_nodes.ensures.fault)
    (inr record {
      greatest = c.greatest_id.result;
      manager = record {
        bodies = load.loads.0;
        unseated = c.in-Ok.loaded.0;
        loaded = load.loads.1;
        journal = first_journal (D.told before.manager) (D.told c.in-Ok.loaded.1.disk) load.loads.0 load.loads.2;
        are = c.greatest_id.ensures;
      };
      so = c.in-Err-load_nodes.ensures.so;
    }))

pub returns-in-Err-load_nodes-clause-spared : goal.returns-in-Err-load_nodes-clause-spared
returns-in-Err-load_nodes-clause-spared g c =
    let D = g.D.Disk in
    let see = (λ (d : g.row.D.Denot). seen (D.told d) (D.clock d) (D.image d) (D.faults d)) in
    let before = c.args.disks in
    let kept = c.in-Ok.ensures in
    let refused = c.in-Err-load_nodes.field-0 in
    let left : Disks g.row.D.Denot = record { manager = c.in-Ok.loaded.1.disk; scm = refused.scm; nodes = refused.nodes } in
    let its = c.refused-in-Err-load_nodes.ensures in
    let same = disks_same c.refused-in-Err-load_nodes.result.disks left (its.manager ∙ (c.into_disk.ensures ∙ ap (λ j. j.disk) c.into_journal.ensures)) its.scm its.nodes in
    subst (AreAtMostLoaded see before) (sym same) record {
      manager = record { telling = kept.telling; contents = kept.contents; never_falls = kept.never_falls; time = kept.time; moments = kept.moments; loadable = kept.loadable };
      scm = c.in-Err-load_nodes.ensures.scm_left;
      nodes = c.in-Err-load_nodes.ensures.nodes_left;
    }

pub run_loaded-requires-clause-loaded : goal.run_loaded-requires-clause-loaded
run_loaded-requires-clause-loaded g c κs within =
    let load = c.in-Ok.ensures in
    (load.loads.0, load.loads.1, tells_journal (g.D.Disk.told c.args.disks.manager) (g.D.Disk.told c.in-Ok.loaded.1.disk) load.loads.0 load.telling load.loads.2)

pub run_loaded-requires-clause-others : goal.run_loaded-requires-clause-others
run_loaded-requires-clause-others g c κs within =
    let loaded = c.in-Ok-load_nodes in
    record { disk = c.args.disks.scm; disks = c.args.disks.nodes.items; scm_from = loaded.ensures.scm; nodes_from = loaded.ensures.nodes }

pub run_loaded-requires-clause-fresh : goal.run_loaded-requires-clause-fresh
run_loaded-requires-clause-fresh g c κs within =
    let loaded = c.in-Ok-load_nodes in
    subst (λ (n : ℕ). AreBelow n (map node_in loaded.loaded.nodes.items) loaded.loaded.scm.made.next_id) c.greatest_id.ensures loaded.ensures.fresh

pub run_loaded-requires-clause-least : goal.run_loaded-requires-clause-least
run_loaded-requires-clause-least g c κs within =
    let D = g.D.Disk in
    let see = (λ (d : g.row.D.Denot). seen (D.told d) (D.clock d) (D.image d) (D.faults d)) in
    let loaded = c.in-Ok-load_nodes in
    let many = so_many see 0 c.args.disks.nodes.items loaded.loaded.nodes.items loaded.ensures.nodes in
    omega (arith, many, c.requires.least)

pub run_loaded-requires-clause-most : goal.run_loaded-requires-clause-most
run_loaded-requires-clause-most g c κs within =
    let D = g.D.Disk in
    let see = (λ (d : g.row.D.Denot). seen (D.told d) (D.clock d) (D.image d) (D.faults d)) in
    let loaded = c.in-Ok-load_nodes in
    let many = so_many see 0 c.args.disks.nodes.items loaded.loaded.nodes.items loaded.ensures.nodes in
    omega (arith, many, c.requires.most)

pub ran_over-requires-clause-enough : goal.ran_over-requires-clause-enough
ran_over-requires-clause-enough g c =
    let loaded = c.in-Ok-load_nodes.loaded in
    let ran = c.in-Ok-run_loaded in
    let count : length ran.ran.nodes.items ≡ length loaded.nodes.items = ran.ensures.told.run.datanodes.count ∙ node_count loaded.nodes.items in
    omega (arith, count, loaded.enough)

pub not_started-requires-clause-enough : goal.not_started-requires-clause-enough
not_started-requires-clause-enough g c =
    let loaded = c.in-Ok-load_nodes.loaded in
    let refused = c.in-Err-run_loaded in
    let count : length refused.unstarted.nodes.items ≡ length loaded.nodes.items = ap (λ (l : List (Datanode g.row.D.Denot)). length l) refused.ensures.nodes in
    omega (arith, count, loaded.enough)

pub returns-in-Ok-run_loaded-clause-ran : goal.returns-in-Ok-run_loaded-clause-ran
returns-in-Ok-run_loaded-clause-ran g c =
    let D = g.D.Disk in
    let see = (λ (d : g.row.D.Denot). seen (D.told d) (D.clock d) (D.image d) (D.faults d)) in
    let load = c.in-Ok.ensures in
    let bodies = load.loads.0 in
    let this = load.loads.1 in
    let both = load.loads.2 in
    let disks = c.args.disks in
    let before = disks.manager in
    let others = others_of disks in
    let unseated = c.in-Ok.loaded.0 in
    let mounted = c.in-Ok.loaded.1.disk in
    let ran = c.in-Ok-run_loaded.ran in
    let after = ran.journal.disk in
    let script = c.args.script.now in
    let told = c.in-Ok-run_loaded.ensures.told in
    let law = c.the_parts_are_the_whole.ensures in
    let rows = rows_are bodies unseated this (law.there bodies unseated this) (law.same bodies unseated this) in
    let stripes = are_stripes bodies unseated this (law.there bodies unseated this) (law.same bodies unseated this) in
    let journal = tells_journal (D.told before) (D.told mounted) bodies load.telling both in
    let fit = c.a_batch_makes_a_body.ensures.fit bodies this.all unseated.last_index this.builds in
    let loaded = c.in-Ok-load_nodes in
    let scm = loaded.loaded.scm in
    let datanodes = loaded.loaded.nodes.items in
    let nodes = other_nodes scm datanodes in
    let left = left_by ran in
    let fresh = subst (λ (n : ℕ). AreBelow n (map node_in datanodes) scm.made.next_id) c.greatest_id.ensures loaded.ensures.fresh in
    let loaded_count = so_many see 0 disks.nodes.items datanodes loaded.ensures.nodes in
    let left_count = told.run.datanodes.count ∙ node_count datanodes in
    let many : AreAsMany others nodes left = record { before_count = sym loaded_count ∙ sym left_count; loaded_count = sym left_count } in
    let its = c.ran_over.ensures in
    let back : Disks g.row.D.Denot = record { manager = after; scm = c.ran_over.result.disks.scm; nodes = c.ran_over.result.disks.nodes } in
    let same = disks_same c.ran_over.result.disks back its.manager refl refl in
    let run : IsStoreRun see script disks back c.ran_over.result.any_halted ran.story.items ran.is_done = record {
      nodes = nodes;
      left = left;
      scm_loaded = loaded.ensures.scm;
      nodes_loaded = loaded.ensures.nodes;
      stopped = ran.journal.stopped;
      over = record {
        bodies = bodies;
        unseated = unseated;
        loaded = this;
        journal = first_journal (D.told before) (D.told mounted) bodies both;
        faults = D.faults mounted;
        first = D.clock mounted;
        no_fewer = load.never_falls;
        ended = load.ended;
        coherent = λ namespace coherent.
            let shown = c.parts_show_their_namespace.ensures (row_of this.all) unseated.parts namespace stripes coherent.stands in
            one_history see script others nodes before mounted ran bodies unseated this rows journal load.telling _
            namespace shown loaded.ensures.nodes coherent (c.all_disks_are_a_store.ensures.store bodies unseated this namespace scm.made datanodes coherent.stands (but_renames (row_of this.all) coherent.sound) fresh coherent.agree) fit
            (told_of see script others nodes before mounted ran bodies unseated this rows journal load.telling _ namespace shown told);
        scm = λ namespace. scm_over D.faults unseated (namespace_shown unseated.parts) namespace nodes (counts_loaded see (D.faults mounted) nodes) ran.story.items ran.scm told.run.scm;
        datanodes = λ namespace.
            let bytes = opening_bytes see datanodes in
            let Coherent = IsCoherentStore see disks.nodes.items (row_of this.all) (opening_of unseated namespace scm.made datanodes) bytes in
            let same = λ (coherent : Coherent). c.parts_show_their_namespace.ensures (row_of this.all) unseated.parts namespace stripes coherent.stands in
            nodes_over D.told D.clock D.image D.faults unseated scm.made datanodes (namespace_shown unseated.parts) namespace (ShowStore see unseated scm.made datanodes) Coherent
            (λ coherent. shows see script others nodes before mounted ran bodies unseated this rows journal load.telling 0 namespace (same coherent) loaded.ensures.nodes coherent)
            same bytes script (counts_loaded see (D.faults mounted) nodes) ran.story.items ran.nodes.items told.run.datanodes;
        many = many;
        halted = told.halted before others many;
        status = told.status;
        done = told.run.done;
        loading = loading_keeps (see before) (see mounted) (see after) told.run.kept.time (D.told before) load.ended load.moments;
      };
      fresh = fresh;
      halted = its.any_halted;
      scm_left = its.scm;
      nodes_left = its.nodes;
      scm_reopens = subst (λ (n : ℕ). ScmReopens see n ran.scm) (told.run.scm.nodes ∙ (node_count datanodes ∙ loaded_count)) its.scm_reopens;
      nodes_reopen = its.nodes_reopen;
    } in
    subst (λ (d : Disks g.row.D.Denot). IsStoreRun see script disks d c.ran_over.result.any_halted c.ran_over.result.story.items c.ran_over.result.is_done) (sym same)
    (subst (λ (l : List Event). IsStoreRun see script disks back c.ran_over.result.any_halted l c.ran_over.result.is_done) (sym (ap (λ v. v.items) its.story))
    (subst (λ (b : Bool). IsStoreRun see script disks back c.ran_over.result.any_halted ran.story.items b) (sym its.is_done) run))

pub returns-in-Err-run_loaded-clause-refused : goal.returns-in-Err-run_loaded-clause-refused
returns-in-Err-run_loaded-clause-refused g c =
    let D = g.D.Disk in
    let see = (λ (d : g.row.D.Denot). seen (D.told d) (D.clock d) (D.image d) (D.faults d)) in
    let before = c.args.disks in
    let load = c.in-Ok.ensures in
    subst (λ (f : StoreFault). IsRefusedFor see before c.not_started.result.disks f) (sym c.not_started.ensures.fault)
    (inr record {
      greatest = c.greatest_id.result;
      manager = record {
        bodies = load.loads.0;
        unseated = c.in-Ok.loaded.0;
        loaded = load.loads.1;
        journal = first_journal (D.told before.manager) (D.told c.in-Ok.loaded.1.disk) load.loads.0 load.loads.2;
        are = c.greatest_id.ensures;
      };
      so = tt;
    })

pub returns-in-Err-run_loaded-clause-spared : goal.returns-in-Err-run_loaded-clause-spared
returns-in-Err-run_loaded-clause-spared g c =
    let D = g.D.Disk in
    let see = (λ (d : g.row.D.Denot). seen (D.told d) (D.clock d) (D.image d) (D.faults d)) in
    let before = c.args.disks in
    let kept = c.in-Ok.ensures in
    let loaded = c.in-Ok-load_nodes in
    let its = c.not_started.ensures in
    let unstarted = c.in-Err-run_loaded.ensures in
    let manager = its.manager ∙ ap (λ j. j.disk) unstarted.journal in
    let scm = its.scm ∙ ap (λ s. s.disk) unstarted.scm in
    let nodes = its.nodes ∙ ap (λ (l : List (Datanode g.row.D.Denot)). map disks_in l) unstarted.nodes in record {
      manager = subst (λ (d : g.row.D.Denot). LeavesJournal (see before.manager) (see d)) (sym manager)
          record { telling = kept.telling; contents = kept.contents; never_falls = kept.never_falls; time = kept.time; moments = kept.moments; loadable = kept.loadable };
      scm = subst (λ (d : g.row.D.Denot). LeavesScm (length before.nodes.items) (see before.scm) (see d)) (sym scm) loaded.ensures.scm.left;
      nodes = subst (λ (l : List (NodeDisks g.row.D.Denot)). AllZip (LeavesNode see) before.nodes.items l) (sym nodes) (loaded_left see 0 before.nodes.items loaded.loaded.nodes.items loaded.ensures.nodes);
    }
