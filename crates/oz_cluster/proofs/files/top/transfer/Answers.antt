use Rattle.std.proofs.Common.{inl, inr, refl, ℕ, Bool, List, map, sym, subst, length, arith}
use Rattle.std.specs.Prelude.{if◌then◌else◌}
use Rattle.std.specs.String.{string_bytes}
use Rattle.oz_cluster.specs.files.Asked.{line_for, script_for}
use Rattle.oz_cluster.specs.files.Endings.{EndsSo}
use Rattle.oz_cluster.specs.files.Reading.{path_of}
use Rattle.oz_cluster.specs.files.Streams.{Stream, stream}
use Rattle.oz_cluster.specs.files.Transfers.{TransferEnds}
use Rattle.oz_cluster.specs.declared.files.words.Way.{Way}
use Rattle.oz_cluster.specs.declared.files.words.Way.TheVariants.{Put}
use Rattle.oz_command.specs.declared.command.Data.TheVariants.{Text}
use Rattle.oz_cluster.specs.files.Words.{IsTransferOf, IsTransferWith, key_word}
use Rattle.oz_cluster.proofs.Right.{OneThing}
use Rattle.oz_cluster.proofs.TransferAnswers.{lines_are_apart, told_means}
use Rattle.oz_cluster.proofs.TransferCauses.{transfer_causes}
use Rattle.oz_cluster.proofs.TransferStops.{stopped_before, stopped_while}
use Rattle.oz_cluster.proofs.TransferWords.{put_of}
use Rattle.oz_core.specs.declared.event.Event.{Event}
use Rattle.oz_running.specs.status.Status.TheVariants as status
use Rattle.oz_running.specs.NamedHalts.{StatusNamesHalts}
use Rattle.oz_running.specs.store_opening.Openings.{opening_bytes, opening_of}
use Rattle.oz_running.specs.declared.disk_run.disks.Disks.{Disks}
use Rattle.oz_rows.specs.RowMaps.{row_of}
use Rattle.oz_running.specs.disk_run.StoreRun.{IsStoreRun}
use Rattle.oz_running.specs.disk_run.laws.Sounds.{but_renames}
use Rattle.oz_script.specs.declared.lines.script.Script.{Script}
use Rattle.oz_world.specs.Disk.{Seen, seen}
use Rattle.oz_world.specs.Faults.{Rose}
use Rattle.oz_cluster.proofs.files.top.transfer.Goals as goal

pub returns-in-Err-clause-one_transfer : goal.returns-in-Err-clause-one_transfer
returns-in-Err-clause-one_transfer g c =
    let see : g.row.D.Denot → Seen = λ disk. seen (g.D.Disk.told disk) (g.D.Disk.clock disk) (g.D.Disk.image disk) (g.D.Disk.faults disk) in
    let said = c.say_transfer_stop.ensures.said in
    let words = map string_bytes c.args.words.now in
    let source = stream (g.S.Source.left c.args.source.now) (g.S.Source.left c.begin_transfer.new.source) (Rose (g.S.Source.faults c.args.source.now) (g.S.Source.faults c.begin_transfer.new.source)) in
    let out = stream (g.K.Sink.held c.args.out.now) (g.K.Sink.held c.args.out.now) (Rose (g.K.Sink.faults c.args.out.now) (g.K.Sink.faults c.args.out.now)) in
    let errors = stream (g.E.Sink.held c.args.errors.now) (g.E.Sink.held c.say_transfer_stop.new.errors) (Rose (g.E.Sink.faults c.args.errors.now) (g.E.Sink.faults c.say_transfer_stop.new.errors)) in
    subst (λ (d : Disks g.row.D.Denot). TransferEnds see words c.args.disks d source out errors c.ended_before.result.story.items c.ended_before.result.status) (sym c.ended_before.ensures.disks) (
      c.say_transfer_stop.result,
      c.ended_before.ensures.status,
      inl (stopped_before see words source out errors _ c.in-Err.stop said.0 c.say_transfer_stop.result said.1 said.2 said.3 refl c.ended_before.ensures.story c.begin_transfer.ensures.taken c.args.disks c.in-Err.ensures.so),
    )

pub returns-in-Err-clause-causes : goal.returns-in-Err-clause-causes
returns-in-Err-clause-causes g c =
    let see : g.row.D.Denot → Seen = λ disk. seen (g.D.Disk.told disk) (g.D.Disk.clock disk) (g.D.Disk.image disk) (g.D.Disk.faults disk) in
    let one : OneThing = record {
      manager = c.a_disk_loads_as_one_thing.ensures.one;
      manager_or_damaged = c.a_disk_loads_as_one_thing.ensures.not_both;
      scm = c.a_disk_stands_for_one_thing.ensures.one_thing;
      scm_number = c.a_disk_stands_for_one_thing.ensures.one_number;
      scm_or_damaged = c.a_disk_stands_for_one_thing.ensures.not_both;
      node = c.a_disk_stands_for_one_node.ensures.one_node;
      node_or_damaged = c.a_disk_stands_for_one_node.ensures.not_both;
    } in
    transfer_causes one see c.a_halted_node_counted.ensures _ _ _ _ _ _ _ _ (returns-in-Err-clause-one_transfer g c)

pub returns-in-Err-run_over_disks-clause-one_transfer : goal.returns-in-Err-run_over_disks-clause-one_transfer
returns-in-Err-run_over_disks-clause-one_transfer g c =
    let see : g.row.D.Denot → Seen = λ disk. seen (g.D.Disk.told disk) (g.D.Disk.clock disk) (g.D.Disk.image disk) (g.D.Disk.faults disk) in
    let said = c.say_transfer_stop-in-Err-run_over_disks.ensures.said in
    let words = map string_bytes c.args.words.now in
    let source = stream (g.S.Source.left c.args.source.now) (g.S.Source.left c.begin_transfer.new.source) (Rose (g.S.Source.faults c.args.source.now) (g.S.Source.faults c.begin_transfer.new.source)) in
    let out = stream (g.K.Sink.held c.args.out.now) (g.K.Sink.held c.args.out.now) (Rose (g.K.Sink.faults c.args.out.now) (g.K.Sink.faults c.args.out.now)) in
    let errors = stream (g.E.Sink.held c.args.errors.now) (g.E.Sink.held c.say_transfer_stop-in-Err-run_over_disks.new.errors)
    (Rose (g.E.Sink.faults c.args.errors.now) (g.E.Sink.faults c.say_transfer_stop-in-Err-run_over_disks.new.errors)) in
    let ready = c.in-Ok.ready in
    let refused = c.in-Err-run_over_disks.ensures in
    subst (λ (d : Disks g.row.D.Denot). TransferEnds see words c.args.disks d source out errors c.ended_before-in-Err-run_over_disks.result.story.items c.ended_before-in-Err-run_over_disks.result.status)
    (sym c.ended_before-in-Err-run_over_disks.ensures.disks) (
      c.say_transfer_stop-in-Err-run_over_disks.result,
      c.ended_before-in-Err-run_over_disks.ensures.status,
      inl (stopped_while see words source out errors _ _ said.0 c.say_transfer_stop-in-Err-run_over_disks.result said.1 said.2 said.3 refl c.ended_before-in-Err-run_over_disks.ensures.story c.begin_transfer.ensures.taken
          c.args.disks c.in-Err-run_over_disks.field-0.disks c.in-Err-run_over_disks.field-0.fault refl
          (record { way = ready.asked.way; words_are = (path_of ready.path, ready.nodes, ready.workers, c.in-Ok.ensures.words); given = ready.given.items; took = c.in-Ok.ensures.given }, refused.refused) refused.spared),
    )

pub returns-in-Err-run_over_disks-clause-causes : goal.returns-in-Err-run_over_disks-clause-causes
returns-in-Err-run_over_disks-clause-causes g c =
    let see : g.row.D.Denot → Seen = λ disk. seen (g.D.Disk.told disk) (g.D.Disk.clock disk) (g.D.Disk.image disk) (g.D.Disk.faults disk) in
    let one : OneThing = record {
      manager = c.a_disk_loads_as_one_thing.ensures.one;
      manager_or_damaged = c.a_disk_loads_as_one_thing.ensures.not_both;
      scm = c.a_disk_stands_for_one_thing.ensures.one_thing;
      scm_number = c.a_disk_stands_for_one_thing.ensures.one_number;
      scm_or_damaged = c.a_disk_stands_for_one_thing.ensures.not_both;
      node = c.a_disk_stands_for_one_node.ensures.one_node;
      node_or_damaged = c.a_disk_stands_for_one_node.ensures.not_both;
    } in
    transfer_causes one see c.a_halted_node_counted.ensures _ _ _ _ _ _ _ _ (returns-in-Err-run_over_disks-clause-one_transfer g c)

pub returns-clause-one_transfer : goal.returns-clause-one_transfer
returns-clause-one_transfer g c =
    let see : g.row.D.Denot → Seen = λ disk. seen (g.D.Disk.told disk) (g.D.Disk.clock disk) (g.D.Disk.image disk) (g.D.Disk.faults disk) in
    let words = map string_bytes c.args.words.now in
    let out = stream (g.K.Sink.held c.args.out.now) (g.K.Sink.held c.finish_transfer-outcome.new.out) (Rose (g.K.Sink.faults c.args.out.now) (g.K.Sink.faults c.finish_transfer-outcome.new.out)) in
    let errors = stream (g.E.Sink.held c.args.errors.now) (g.E.Sink.held c.finish_transfer-outcome.new.errors) (Rose (g.E.Sink.faults c.args.errors.now) (g.E.Sink.faults c.finish_transfer-outcome.new.errors)) in
    let ready = c.in-Ok.ready in
    let way = ready.asked.way in
    let path = path_of ready.path in
    let given : List ℕ = ready.given.items in
    let ran = c.in-Ok-run_over_disks.ran in
    let story : List Event = ran.story.items in
    let store : IsStoreRun see (script_for way path given) c.args.disks ran.disks ran.any_halted story ran.is_done =
    subst (λ (s : Script). IsStoreRun see s c.args.disks ran.disks ran.any_halted story ran.is_done) c.in-Ok.ensures.script c.in-Ok-run_over_disks.ensures.ran in
    let over = store.over in
    let outcome = c.finish_transfer-outcome.result in (
      outcome,
      c.number.ensures,
      inr record {
        way = way;
        path = path;
        workers = ready.workers;
        asked = subst (λ (n : ℕ). IsTransferWith words way path n ready.workers) (sym (c.requires.nodes way path ready.nodes ready.workers c.in-Ok.ensures.words)) c.in-Ok.ensures.words;
        given = given;
        took = c.in-Ok.ensures.given;
        any_halted = ran.any_halted;
        is_done = ran.is_done;
        store = store;
        ends = subst (λ (n : ℕ). EndsSo n (key_word words) story ran.any_halted out errors way outcome) c.in-Ok.ensures.size
            (subst (λ (k : List ℕ). EndsSo ready.asked.size k story ran.any_halted out errors way outcome) c.in-Ok.ensures.key
            (subst (λ (l : List Event). EndsSo ready.asked.size ready.asked.key.now l ran.any_halted out errors way outcome) c.deref.ensures.value c.finish_transfer-outcome.ensures.ends));
        named = subst (λ (b : Bool). StatusNamesHalts (if b then status.Disk else status.Done) story) (sym store.halted) over.status;
        halted = over.halted;
        headline = λ namespace coherent.
            let history = (over.coherent namespace coherent).headline in
            let opening = opening_of over.unseated namespace store.nodes.scm.made store.nodes.datanodes in
            let whole = c.all_disks_are_a_store.ensures.store over.bodies over.unseated over.loaded namespace store.nodes.scm.made store.nodes.datanodes coherent.stands (but_renames (row_of over.loaded.all) coherent.sound) store.fresh coherent.agree in (
              history,
              told_means opening (opening_bytes see store.nodes.datanodes) path given story whole.disks.fresh
                  (λ before it legal fits done.
                  c.a_put_names_its_key.ensures opening (opening_bytes see store.nodes.datanodes) (script_for Put path given) before (line_for Put path given)
                  path.volume path.bucket path.key (Text given) it legal fits (lines_are_apart Put path given) (0, omega arith, refl) (λ e. absurd (omega (arith, e))) refl done)
                  way history.one_history.0 history.one_history.1,
            );
      },
    )

pub returns-clause-causes : goal.returns-clause-causes
returns-clause-causes g c =
    let see : g.row.D.Denot → Seen = λ disk. seen (g.D.Disk.told disk) (g.D.Disk.clock disk) (g.D.Disk.image disk) (g.D.Disk.faults disk) in
    let one : OneThing = record {
      manager = c.a_disk_loads_as_one_thing.ensures.one;
      manager_or_damaged = c.a_disk_loads_as_one_thing.ensures.not_both;
      scm = c.a_disk_stands_for_one_thing.ensures.one_thing;
      scm_number = c.a_disk_stands_for_one_thing.ensures.one_number;
      scm_or_damaged = c.a_disk_stands_for_one_thing.ensures.not_both;
      node = c.a_disk_stands_for_one_node.ensures.one_node;
      node_or_damaged = c.a_disk_stands_for_one_node.ensures.not_both;
    } in
    transfer_causes one see c.a_halted_node_counted.ensures _ _ _ _ _ _ _ _ (returns-clause-one_transfer g c)

pub returns-clause-unwritten : goal.returns-clause-unwritten
returns-clause-unwritten g c none =
    let ready = c.in-Ok.ready in
    let words = map string_bytes c.args.words.now in
    c.finish_transfer-outcome.ensures.unwritten
    (put_of ready.asked.way (λ is. none (subst (λ (w : Way). IsTransferOf w words) is (path_of ready.path, ready.nodes, ready.workers, c.in-Ok.ensures.words))))
