use Rattle.std.proofs.Common.{rules, List, ◌≡◌, ◌-◌, ◌++◌, ◌∷◌, [], ◌∙◌, length, refl, sym, ap, subst, arith}
use Rattle.std.proofs.lemmas.Grind.{common_steps}
use Rattle.oz_core.specs.declared.event.Event.{Event}
use Rattle.oz_core.specs.declared.event.Node.TheVariants as node
use Rattle.oz_flusher.specs.flushing.Kept.{IsKept}
use Rattle.oz_headline.specs.NodeSeat.{IsKept as SeatIsKept, StandsFor}
use Rattle.oz_running.specs.Jobs.{AreJobs, job_at}
use Rattle.oz_running.specs.Left.{IsServedAt}
use Rattle.oz_running.proofs.Left.{all_left, first_left, served_left}
use Rattle.oz_running.proofs.Placed.{front_of}
use Rattle.oz_service.specs.Pass.{AskedMore}
use Rattle.oz_scm_events.specs.Kept.{IsKept as ScmIsKept}
use Rattle.oz_world.specs.Disk.{seen}
use Rattle.oz_running.proofs.leaving.all_leave.Goals as goal

pub add_workers-requires-clause-jobs : goal.add_workers-requires-clause-jobs
add_workers-requires-clause-jobs g c =
    let count : length c.args.jobs.items - 1 ≡ length c.pop-flusher.new.self.items = first_of (search rules, grind (arith, common_steps)) in
    subst (λ n. AreJobs n c.pop-flusher.new.self.items) count
    (front_of (λ place job. job ≡ job_at (length c.args.jobs.items - 1) place) c.args.jobs.items c.pop-flusher.new.self.items _ c.pop-flusher.ensures.items c.requires.jobs)

pub returns-clause-left : goal.returns-clause-left
returns-clause-left g c =
    let D = g.D.Disk in
    let O = g.O.Opened in
    let M = g.M.Mounted in
    let rows = g.L.Loaded.rows in
    let turn = g.R.Ring.turn in
    let Kept = SeatIsKept O.coherent O.opening O.bytes O.script in
    let Stands = StandsFor D.told D.clock D.image D.faults O.coherent O.opening O.bytes O.script O.faults in
    let journal = c.into_parts-journal.result.0 in
    let flusher = c.into_parts-journal.result.1 in
    let parts = c.into_parts-manager.result in
    let disk = seen (D.told journal.disk) (D.clock journal.disk) (D.image journal.disk) (D.faults journal.disk) in
    let FlusherKept = λ (saw : List Event) (gave : List Event). IsKept O.coherent O.opening O.bodies M.disk journal.stopped saw gave disk in
    let ScmKept = ScmIsKept O.opening (O.faults node.Scm) parts.scm (D.faults parts.scm.disk) in
    let Served = IsServedAt D.told D.clock D.image D.faults O.coherent O.opening O.bytes O.script O.faults turn parts.nodes.items in
    let service = c.into_seat.result in
    let caller = c.args.quiet.caller in
    let absent = c.args.quiet.absent.items in
    let stripes = c.into_seats-stripes.result.items in
    let seats = parts.seats_of_nodes.items in
    let first = flusher ∷ service ∷ caller ∷ parts.seat_of_scm ∷ [] in
    let node_count : length seats ≡ length O.opening.nodes = c.into_parts-manager.ensures.nodes.count ∙ c.into_parts-manager.ensures.count in
    let all : c.add_all-3.new.all.items ≡ ((first ++ seats) ++ absent) ++ stripes =
    c.add_all-3.ensures.items ∙ ap (λ l. l ++ stripes) (c.add_all-2.ensures.items ∙ ap (λ l. l ++ absent) (c.add_all.ensures.items ∙ ap (λ l. l ++ seats) c.add_first.ensures.items)) in
    record {
      count = c.into_parts-manager.ensures.count;
      few = omega (arith, c.requires.absent_count);
      left = all_left turn O.coherent O.opening rows FlusherKept ScmKept Served first seats absent stripes c.add_all-3.new.all.items c.add_workers.new.all.items
          refl
          (first_left turn O.coherent O.opening rows FlusherKept ScmKept Served flusher service caller parts.seat_of_scm
          c.into_parts-journal.ensures.ready c.into_parts-journal.ensures.kept c.into_seat.ensures.ready
          (subst (AskedMore []) (sym c.into_seat.ensures.mine) c.requires.asked) c.requires.caller
          c.into_parts-manager.ensures.scm_ready c.into_parts-manager.ensures.scm_kept)
          node_count (served_left turn Kept Stands parts.nodes.items seats c.into_parts-manager.ensures.nodes)
          c.requires.absent_count c.requires.absent
          c.into_seats-stripes.ensures.ready c.into_seats-stripes.ensures.stood all c.add_workers.ensures.added;
    }
