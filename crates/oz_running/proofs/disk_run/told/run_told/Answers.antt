use Rattle.std.proofs.Common.{◌≡◌, ℕ, map, slice_get, Some, ◌∙◌, sym, subst, arith}
use Rattle.std.proofs.lemmas.List.{length-map}
use Rattle.std.proofs.lemmas.Result.{IfOk-weaker}
use Rattle.oz_core.specs.Seats.{flusher_seat}
use Rattle.oz_core.specs.Stories.{mine}
use Rattle.oz_running.specs.disk_run.Told.{left_by, other_nodes}
use Rattle.oz_headline.specs.halts.Disks.{AreAsMany, OtherDisks}
use Rattle.oz_headline.specs.NodeSeat.{StandsFor}
use Rattle.oz_headline.specs.Loads.{disks_in}
use Rattle.oz_worker.specs.servers.Begun.{new_seat}
use Rattle.oz_running.proofs.disk_run.told.run_told.Goals as goal

pub run_lines-requires-clause-nodes : goal.run_lines-requires-clause-nodes
run_lines-requires-clause-nodes g c lives within =
    let D = g.D.Disk in
    let O = g.O.Opened in record {
      scm_stands = c.requires.scm;
      nodes_stand = record {
        count = c.requires.count;
        least = c.requires.least;
        most = c.requires.most;
        each = λ dn node at.
            let its = c.requires.nodes dn node at in
            let at_id : slice_get c.args.nodes.items node.id ≡ Some node = subst (λ (n : ℕ). slice_get c.args.nodes.items n ≡ Some node) (sym its.number) at in
            let counts = c.requires.counted.of_each node.id node at_id in record {
              idle = its.idle;
              stood = subst (λ (n : ℕ). StandsFor D.told D.clock D.image D.faults O.coherent O.opening O.bytes O.script O.faults (new_seat n) node) its.number
                  (c.a_loaded_datanode_stands.ensures node its.runs its.opened its.journal (omega (arith, counts)));
            };
      };
      old = c.requires.old;
    }

pub returns-clause-told : goal.returns-clause-told
returns-clause-told g c =
    IfOk-weaker c.run_lines.result _ _ (λ ran run.
    let story = ran.story.items in
    let own = mine flusher_seat story in
    let disk = ran.journal.disk in
    let stopped = ran.journal.stopped in
    let nodes = other_nodes c.args.scm c.args.nodes.items in
    let left = left_by ran in
    let others : OtherDisks g.row.D.Denot = record { scm = c.args.scm.disk; datanodes = map disks_in c.args.nodes.items } in
    let law = c.halts_of_all_nodes_are_named.ensures in
    let halted = λ (before : g.row.D.Denot) (others : OtherDisks g.row.D.Denot) (many : AreAsMany others nodes left). law.named before disk stopped others nodes left own story run.follow run.kept run.scm run.datanodes c.requires.counted many in
    let count = run.datanodes.count in
    let many : AreAsMany others nodes left = record {
      before_count = length-map c.args.nodes.items disks_in ∙ (c.requires.count ∙ sym count);
      loaded_count = c.requires.count ∙ sym count;
    } in record {
      run = run;
      headline = λ coherent before others.
          c.the_story_keeps_the_headline_of_all_disks.ensures coherent (c.requires.opens.store coherent).disks.log c.requires.numbered before disk stopped others nodes left own story run.follow run.kept run.datanodes;
      halted = halted;
      status = law.status disk disk stopped others nodes left story many (halted disk others many);
      all_flushed = λ coherent running.
          c.the_flusher_alone_tells.ensures.swapped story coherent run.follow
          ∙ (run.kept.all_flushed running ∙ sym (c.the_flusher_alone_tells.ensures.durable story coherent run.follow));
      all_taken = λ coherent none. c.what_is_taken_was_decided.ensures story coherent run.follow none;
    }) c.run_lines.ensures.ran
