use Rattle.std.proofs.Common.{◌≡◌, ℕ, ◌+◌, ◌≤◌, ◌<◌, List, length, sym, ap, ◌∙◌, subst}
use Rattle.oz_buffer.specs.Buffer.{Follows}
use Rattle.oz_buffer.specs.Became.{times_said}
use Rattle.oz_core.specs.declared.event.EventKind.TheVariants.{Wrote}
use Rattle.oz_nodes.specs.declared.nodes.TheConstants.{FEWEST_NODES}
use Rattle.oz_node_events.specs.Noting.{MayNote}
use Rattle.oz_requests.specs.declared.answer.Answer.TheVariants as answers
use Rattle.oz_requests.specs.declared.request.AskId.{AskId}
use Rattle.oz_turn.specs.Seat.{seen_of}
use Rattle.oz_underway.specs.UnderWay.{HaveAnswered}
use Rattle.oz_underway.specs.laws.Going.{begins_itself, begins_through}
use Rattle.oz_line_blocks.specs.writing.Written.{IsWritten}
use Rattle.oz_at_work.specs.AtWork.{HasGoneOn, IsAtWork, WorkView, id_of}
use Rattle.oz_at_work.specs.inner.Put.{IsPutNext, WasWritten}
use Rattle.oz_at_work.proofs.Cutting.{cut_goes_on, cut_so, cut_stays}
use Rattle.oz_at_work.proofs.Putting.{may_note, may_write, more_said}
use Rattle.oz_at_work.proofs.at_work.LineAtWork.write.Goals.{in-Ok-write_to_members, in-Err}
use Rattle.oz_at_work.proofs.at_work.LineAtWork.write.Goals as goal

pub returns-in_default-clause-stays : goal.returns-in_default-clause-stays
returns-in_default-clause-stays g c =
    let O = g.O.Opened in
    let seen = seen_of c.args.seat.now in
    cut_stays O seen seen c.args.self.now c.cut.new.self _ answers.OutOfMemory (begins_itself seen) tt c.cut.ensures c.requires.works

pub write_to_members-requires-clause-knows : goal.write_to_members-requires-clause-knows
write_to_members-requires-clause-knows g c =
    let O = g.O.Opened in
    let work : WorkView = c.args.self.now in
    let put = c.in-Ok.put in
    let id : c.id-id.result ≡ id_of work.line work.asked = c.id-id.ensures ∙ ap (λ (w : WorkView). id_of work.line w.asked) c.self.view_is in
    let nodes : work.nodes ≡ length O.opening.nodes = c.in-Ok.ensures.nodes ∙ c.node_count.ensures.opened in
    let puts : IsPutNext work put.block put.members put.first c.as_slice.result.now =
    subst (IsPutNext work put.block put.members put.first) (sym c.as_slice.ensures.value) c.in-Ok.ensures.its in
    record {
      may = λ coherent story begins all.
          subst (λ (i : AskId). MayNote O.opening O.bytes O.script i put.first (record { block = put.block; members = put.members; bytes = c.as_slice.result.now }) story) (sym id)
          (may_note O.coherent O.opening O.bytes O.script (seen_of c.args.seat.now) work put.block put.members put.first c.as_slice.result.now coherent (c.requires.works coherent) nodes puts
          story (begins_through story (seen_of c.story_length-from.new.seat) (seen_of c.args.seat.now) begins c.story_length-from.ensures.goes_on) all (c.opens.ensures.store coherent).disks);
      most = subst (λ (l : List ℕ). length l ≤ 65536) (sym c.as_slice.ensures.value) c.in-Ok.ensures.most;
    }

pub write_to_members-requires-clause-may : goal.write_to_members-requires-clause-may
write_to_members-requires-clause-may g c coherent story answers begins all now answered two =
    let O = g.O.Opened in
    let work : WorkView = c.args.self.now in
    let inside = c.self.inside in
    let put = c.in-Ok.put in
    let id : c.id-id.result ≡ id_of work.line work.asked = c.id-id.ensures ∙ ap (λ (w : WorkView). id_of work.line w.asked) c.self.view_is in
    let said : inside.said + 3 ≡ work.said + 3 = ap (λ (w : WorkView). w.said + 3) c.self.view_is in
    let nodes : work.nodes ≡ length O.opening.nodes = c.in-Ok.ensures.nodes ∙ c.node_count.ensures.opened in
    let least : FEWEST_NODES ≤ length O.opening.nodes = subst (λ (n : ℕ). FEWEST_NODES ≤ n) c.node_count.ensures.opened c.node_count.ensures.least in
    subst (λ (i : AskId). Follows O.coherent O.opening O.bytes O.script story (record { seat = c.args.by; kind = Wrote put.block i })) (sym id)
    (may_write O.coherent O.opening O.bytes O.script (seen_of c.args.seat.now) work put.block put.members put.first put.bytes.items coherent (c.requires.works coherent) nodes c.in-Ok.ensures.its
    story (begins_through story (seen_of c.story_length-from.new.seat) (seen_of c.args.seat.now) begins c.story_length-from.ensures.goes_on) all least c.args.by c.requires.part.of_line answers two
    (subst (λ (i : AskId). times_said i.client i.line story ≡ inside.said + 3) id now ∙ said)
    (subst (λ (i : AskId). HaveAnswered story i put.block put.members answers) id answered))

pub written-requires : goal.written-requires
written-requires g c =
    let said : c.self.inside.said ≡ c.args.self.now.said = ap (λ (w : WorkView). w.said) c.self.view_is in
    record { more = subst (λ (n : ℕ). n < c.in-Ok-write_to_members.now) said (more_said _ c.self.inside.said c.in-Ok-write_to_members.now c.in-Ok-write_to_members.ensures.written.more) }

pub returns-clause-stays : goal.returns-clause-stays
returns-clause-stays g c = record {
  line = elim c.match-write_to_members.branch [
    | in-Ok-write_to_members w ↦ ap (λ (v : WorkView). v.line) w.self-is ∙ w.written.ensures.line
    | in-Err w ↦ ap (λ (v : WorkView). v.line) w.self-is ∙ ap (λ (v : WorkView). v.line) w.cut-in-Err.ensures
  ];
  works = λ coherent.
      let O = g.O.Opened in
      let work : WorkView = c.args.self.now in
      let put = c.in-Ok.put in
      let seen = seen_of c.args.seat.now in
      let later = seen_of c.write_to_members.new.seat in
      let id : c.id-id.result ≡ id_of work.line work.asked = c.id-id.ensures ∙ ap (λ (w : WorkView). id_of work.line w.asked) c.self.view_is in
      let said : c.self.inside.said ≡ work.said = ap (λ (w : WorkView). w.said) c.self.view_is in
      elim c.match-write_to_members.branch [
        | in-Ok-write_to_members w ↦
            let was : WasWritten O.coherent O.opening O.bytes O.script later work w.in-Ok-write_to_members.written w.in-Ok-write_to_members.now = record {
              before = seen;
              at_work = c.requires.works coherent;
              goes_on = begins_through later (seen_of c.story_length-from.new.seat) seen c.write_to_members.ensures.went.goes_on c.story_length-from.ensures.goes_on;
              follow = c.write_to_members.ensures.went.follow;
              nodes = c.in-Ok.ensures.nodes ∙ c.node_count.ensures.opened;
              least = subst (λ (n : ℕ). FEWEST_NODES ≤ n) c.node_count.ensures.opened c.node_count.ensures.least;
              block = put.block;
              members = put.members;
              first = put.first;
              count = c.in-Ok.ensures.its.count;
              next = c.in-Ok.ensures.its.next;
              are = subst (λ (i : AskId). IsWritten i put.block put.members work.said w.in-Ok-write_to_members.written.answers w.in-Ok-write_to_members.now later) id
                  (subst (λ (n : ℕ). IsWritten c.id-id.result put.block put.members n w.in-Ok-write_to_members.written.answers w.in-Ok-write_to_members.now later) said w.in-Ok-write_to_members.ensures.written);
            } in
            subst (IsAtWork O.coherent O.opening O.bytes O.script later) (sym w.self-is) (w.written.ensures.works coherent later was)
        | in-Err w ↦
            subst (IsAtWork O.coherent O.opening O.bytes O.script later) (sym w.self-is)
            (cut_so O.coherent O.opening O.bytes O.script later seen work w.cut-in-Err.new.self _ answers.OutOfMemory coherent
            (begins_through later (seen_of c.story_length-from.new.seat) seen c.write_to_members.ensures.went.goes_on c.story_length-from.ensures.goes_on) tt w.cut-in-Err.ensures
            (c.requires.works coherent))
      ];
  went_on = λ went. elim c.match-write_to_members.branch [
    | in-Ok-write_to_members w ↦ subst (HasGoneOn c.args.self.now) (sym w.self-is) w.written.ensures.went_on
    | in-Err w ↦ subst (HasGoneOn c.args.self.now) (sym w.self-is) (cut_goes_on c.args.self.now c.args.self.now w.cut-in-Err.new.self _ _ w.cut-in-Err.ensures)
  ];
}

pub returns-clause-gone : goal.returns-clause-gone
returns-clause-gone g c = record {
  ready = c.write_to_members.ensures.went.ready;
  room = c.write_to_members.ensures.went.room ∙ c.story_length-from.ensures.room;
  goes_on = begins_through (seen_of c.write_to_members.new.seat) (seen_of c.story_length-from.new.seat) (seen_of c.args.seat.now)
      c.write_to_members.ensures.went.goes_on c.story_length-from.ensures.goes_on;
}
