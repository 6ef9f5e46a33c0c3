use Rattle.std.proofs.Common.{inl, inr, refl, ℕ, List, map, sym, subst}
use Rattle.std.specs.String.{string_bytes}
use Rattle.oz_core.specs.declared.event.Event.{Event}
use Rattle.oz_cluster.specs.Headline.{RunEnds}
use Rattle.oz_cluster.proofs.Causes.{causes_of}
use Rattle.oz_cluster.proofs.Endings.{names_halts, stable_of, worked_off}
use Rattle.oz_cluster.proofs.Right.{OneThing}
use Rattle.oz_cluster.proofs.Stops.{stopped_early, stopped_late}
use Rattle.oz_running.specs.declared.disk_run.disks.Disks.{Disks}
use Rattle.oz_running.specs.halts.Disks.{some_halted}
use Rattle.oz_running.specs.Printed.{IsPrinted}
use Rattle.oz_running.specs.store_opening.Openings.{opening_of}
use Rattle.oz_command.specs.command_line.Words.{IsRunWith}
use Rattle.oz_world.specs.Disk.{Seen, seen}
use Rattle.oz_world.specs.Faults.{Rose}
use Rattle.oz_cluster.proofs.top.run.Goals as goal

pub returns-in-Err-clause-one_run : goal.returns-in-Err-clause-one_run
returns-in-Err-clause-one_run g c =
    let see : g.row.D.Denot → Seen = λ disk. seen (g.D.Disk.told disk) (g.D.Disk.clock disk) (g.D.Disk.image disk) (g.D.Disk.faults disk) in
    let said = c.say_stop.ensures.said in
    let words = map string_bytes c.args.words.now in
    let left = g.S.Source.left c.args.source.now in
    let left_after = g.S.Source.left c.begin.new.source in
    let source_rose = Rose (g.S.Source.faults c.args.source.now) (g.S.Source.faults c.begin.new.source) in
    let sink_rose = Rose (g.K.Sink.faults c.args.out.now) (g.K.Sink.faults c.say_stop.new.out) in
    subst (λ (d : Disks g.row.D.Denot). RunEnds see words left left_after c.args.disks d (g.K.Sink.held c.args.out.now) (g.K.Sink.held c.say_stop.new.out) sink_rose
    c.ended_early.result.story.items source_rose c.ended_early.result.status) (sym c.ended_early.ensures.disks) (
      c.say_stop.result,
      c.ended_early.ensures.status,
      inl (stopped_early see words left left_after source_rose _ _ sink_rose _ c.in-Err.stop said.0 c.say_stop.result said.1 said.2 said.3 c.ended_early.ensures.story c.in-Err.ensures.reads c.begin.ensures.taken
          c.args.disks c.in-Err.ensures.so),
    )

pub returns-in-Err-clause-causes : goal.returns-in-Err-clause-causes
returns-in-Err-clause-causes g c =
    let see : g.row.D.Denot → Seen = λ disk. seen (g.D.Disk.told disk) (g.D.Disk.clock disk) (g.D.Disk.image disk) (g.D.Disk.faults disk) in
    let one : OneThing = record {
      manager = c.a_disk_loads_as_one_thing.ensures.one;
      manager_or_damaged = c.a_disk_loads_as_one_thing.ensures.not_both;
      scm = c.a_disk_stands_for_one_thing.ensures.one_thing;
      scm_number = c.a_disk_stands_for_one_thing.ensures.one_number;
      scm_or_damaged = c.a_disk_stands_for_one_thing.ensures.not_both;
      node = c.a_disk_stands_for_one_node.ensures.one_node;
      node_or_damaged = c.a_disk_stands_for_one_node.ensures.not_both;
    } in
    causes_of one c.words_of_a_run_have_no_fault.ensures see c.a_halted_node_counted.ensures _ _ _ _ _ _ _ _ _ _ _ (returns-in-Err-clause-one_run g c)

pub returns-in-Err-run_over_disks-clause-one_run : goal.returns-in-Err-run_over_disks-clause-one_run
returns-in-Err-run_over_disks-clause-one_run g c =
    let see : g.row.D.Denot → Seen = λ disk. seen (g.D.Disk.told disk) (g.D.Disk.clock disk) (g.D.Disk.image disk) (g.D.Disk.faults disk) in
    let said = c.say_stop-in-Err-run_over_disks.ensures.said in
    let words = map string_bytes c.args.words.now in
    let left = g.S.Source.left c.args.source.now in
    let left_after = g.S.Source.left c.begin.new.source in
    let source_rose = Rose (g.S.Source.faults c.args.source.now) (g.S.Source.faults c.begin.new.source) in
    let sink_rose = Rose (g.K.Sink.faults c.args.out.now) (g.K.Sink.faults c.say_stop-in-Err-run_over_disks.new.out) in
    let begun = c.in-Ok.begun in
    let refused = c.in-Err-run_over_disks.ensures in
    subst (λ (d : Disks g.row.D.Denot). RunEnds see words left left_after c.args.disks d (g.K.Sink.held c.args.out.now) (g.K.Sink.held c.say_stop-in-Err-run_over_disks.new.out) sink_rose
    c.ended_early-in-Err-run_over_disks.result.story.items source_rose c.ended_early-in-Err-run_over_disks.result.status) (sym c.ended_early-in-Err-run_over_disks.ensures.disks) (
      c.say_stop-in-Err-run_over_disks.result,
      c.ended_early-in-Err-run_over_disks.ensures.status,
      inl (stopped_late see words left left_after source_rose _ _ sink_rose _ _ said.0 c.say_stop-in-Err-run_over_disks.result said.1 said.2 said.3 c.ended_early-in-Err-run_over_disks.ensures.story
          c.in-Ok.ensures.through c.begin.ensures.taken c.args.disks c.in-Err-run_over_disks.field-0.disks c.in-Err-run_over_disks.field-0.fault refl
          ((begun.nodes, begun.workers, c.in-Ok.ensures.words), (begun.script, c.in-Ok.ensures.script), refused.refused) refused.spared),
    )

pub returns-in-Err-run_over_disks-clause-causes : goal.returns-in-Err-run_over_disks-clause-causes
returns-in-Err-run_over_disks-clause-causes g c =
    let see : g.row.D.Denot → Seen = λ disk. seen (g.D.Disk.told disk) (g.D.Disk.clock disk) (g.D.Disk.image disk) (g.D.Disk.faults disk) in
    let one : OneThing = record {
      manager = c.a_disk_loads_as_one_thing.ensures.one;
      manager_or_damaged = c.a_disk_loads_as_one_thing.ensures.not_both;
      scm = c.a_disk_stands_for_one_thing.ensures.one_thing;
      scm_number = c.a_disk_stands_for_one_thing.ensures.one_number;
      scm_or_damaged = c.a_disk_stands_for_one_thing.ensures.not_both;
      node = c.a_disk_stands_for_one_node.ensures.one_node;
      node_or_damaged = c.a_disk_stands_for_one_node.ensures.not_both;
    } in
    causes_of one c.words_of_a_run_have_no_fault.ensures see c.a_halted_node_counted.ensures _ _ _ _ _ _ _ _ _ _ _ (returns-in-Err-run_over_disks-clause-one_run g c)

pub returns-clause-one_run : goal.returns-clause-one_run
returns-clause-one_run g c =
    let see : g.row.D.Denot → Seen = λ disk. seen (g.D.Disk.told disk) (g.D.Disk.clock disk) (g.D.Disk.image disk) (g.D.Disk.faults disk) in
    let source_rose = Rose (g.S.Source.faults c.args.source.now) (g.S.Source.faults c.begin.new.source) in
    let sink_rose = Rose (g.K.Sink.faults c.args.out.now) (g.K.Sink.faults c.finish-status.new.out) in
    let script = c.in-Ok.begun.script in
    let ran = c.in-Ok-run_over_disks.ran in
    let story : List Event = ran.story.items in
    let store = c.in-Ok-run_over_disks.ensures.ran in
    let status = c.finish-status.result in (
      status,
      c.number.ensures,
      inr record {
        script = script;
        workers = c.in-Ok.begun.workers;
        given = subst (λ (n : ℕ). IsRunWith (map string_bytes c.args.words.now) n c.in-Ok.begun.workers) (sym (c.requires.nodes c.in-Ok.begun.nodes c.in-Ok.begun.workers c.in-Ok.ensures.words)) c.in-Ok.ensures.words;
        parsed = c.in-Ok.ensures.script;
        read = c.in-Ok.ensures.through;
        any_halted = ran.any_halted;
        is_done = ran.is_done;
        store = store;
        printed = subst (λ (l : List Event). IsPrinted status script l (g.K.Sink.held c.args.out.now) (g.K.Sink.held c.finish-status.new.out) sink_rose) c.deref.ensures.value c.finish-status.ensures.printed;
        ended = names_halts status story ran.any_halted (some_halted store.stopped store.left) store.halted c.finish-status.ensures.done c.finish-status.ensures.disk store.over.status;
        told = λ ne. (worked_off status script story store.stopped ran.is_done store.over.done c.finish-status.ensures.worked_off ne).told;
        halted = store.over.halted;
        headline = λ namespace coherent.
            let one = store.over.coherent namespace coherent in
            let history = one.headline in (
              history,
              λ ne. c.all_are_told_by_count.ensures.all _ _ script story c.in-Ok.ensures.numbered history.one_history.1
                  (worked_off status script story store.stopped ran.is_done store.over.done c.finish-status.ensures.worked_off ne).told,
              stable_of status script story (opening_of store.over.unseated namespace store.nodes.scm.made store.nodes.datanodes) store.stopped ran.is_done ran.any_halted _ store.halted c.finish-status.ensures.done store.over.done
                  c.finish-status.ensures.worked_off one.all_stable,
            );
      },
    )

pub returns-clause-causes : goal.returns-clause-causes
returns-clause-causes g c =
    let see : g.row.D.Denot → Seen = λ disk. seen (g.D.Disk.told disk) (g.D.Disk.clock disk) (g.D.Disk.image disk) (g.D.Disk.faults disk) in
    let one : OneThing = record {
      manager = c.a_disk_loads_as_one_thing.ensures.one;
      manager_or_damaged = c.a_disk_loads_as_one_thing.ensures.not_both;
      scm = c.a_disk_stands_for_one_thing.ensures.one_thing;
      scm_number = c.a_disk_stands_for_one_thing.ensures.one_number;
      scm_or_damaged = c.a_disk_stands_for_one_thing.ensures.not_both;
      node = c.a_disk_stands_for_one_node.ensures.one_node;
      node_or_damaged = c.a_disk_stands_for_one_node.ensures.not_both;
    } in
    causes_of one c.words_of_a_run_have_no_fault.ensures see c.a_halted_node_counted.ensures _ _ _ _ _ _ _ _ _ _ _ (returns-clause-one_run g c)
