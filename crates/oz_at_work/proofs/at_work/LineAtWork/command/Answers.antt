use Rattle.std.proofs.Common.{◌≡◌, ◌≤◌, ◌<◌, length, sym, ap, ◌∙◌, subst, arith}
use Rattle.std.specs.Prelude.{Err}
use Rattle.oz_node_admin.specs.declared.fault.AdminFault.TheVariants.{Halted}
use Rattle.oz_node_admin.specs.Came.{CameOf}
use Rattle.oz_node_admin.specs.laws.Due.{names_its}
use Rattle.oz_requests.specs.declared.answer.Answer.TheVariants as answers
use Rattle.oz_turn.specs.Seat.{seen_of}
use Rattle.oz_underway.specs.laws.Going.{begins_itself}
use Rattle.oz_at_work.specs.AtWork.{WorkView}
use Rattle.oz_at_work.specs.inner.Commanded.{IsCommandOf}
use Rattle.oz_at_work.specs.inner.Replied.{cut_with}
use Rattle.oz_at_work.proofs.Commands.{due_done, due_halted, no_node_works}
use Rattle.oz_at_work.proofs.Cutting.{cut_goes_on, cut_stays}
use Rattle.oz_at_work.proofs.Staying.{work_still}
use Rattle.oz_at_work.proofs.at_work.LineAtWork.command.Goals as goal

pub returns-in_default-clause-stays : goal.returns-in_default-clause-stays
returns-in_default-clause-stays g c =
    let O = g.O.Opened in
    let seen = seen_of c.args.seat.now in
    cut_stays O seen seen c.args.self.now c.cut.new.self _ answers.OutOfMemory (begins_itself seen) tt c.cut.ensures c.requires.works

pub returns-then-dn-node_count-clause-stays : goal.returns-then-dn-node_count-clause-stays
returns-then-dn-node_count-clause-stays g c =
    let O = g.O.Opened in
    let work : WorkView = c.args.self.now in
    let it = c.in-Some.field-0 in
    let its : IsCommandOf work.line it.dn it.done = subst (λ (w : WorkView). IsCommandOf w.line it.dn it.done) c.self.view_is c.in-Some.ensures.its in
    let out : length O.opening.nodes ≤ it.dn = omega (arith, c.if-dn-node_count.true, c.node_count.ensures.opened) in
    let cut = c.cut-then-dn-node_count in
    let is : cut.new.self ≡ cut_with work work.asked answers.NoSuchNode = cut.ensures ∙ ap (λ (w : WorkView). cut_with work w.asked answers.NoSuchNode) c.self.view_is in
    record {
      line = ap (λ (w : WorkView). w.line) is;
      works = λ coherent. no_node_works O.coherent O.opening O.bytes O.script (seen_of c.args.seat.now) work cut.new.self it.dn it.done its out is (c.requires.works coherent);
      went_on = λ went. cut_goes_on work work cut.new.self _ _ is;
    }

pub tell_of-requires-clause-works : goal.tell_of-requires-clause-works
tell_of-requires-clause-works g c = c.requires.works

pub tell_of-requires-clause-due : goal.tell_of-requires-clause-due
tell_of-requires-clause-due g c coherent =
    let work : WorkView = c.args.self.now in
    let it = c.in-Some.field-0 in
    let its : IsCommandOf work.line it.dn it.done = subst (λ (w : WorkView). IsCommandOf w.line it.dn it.done) c.self.view_is c.in-Some.ensures.its in
    (c.requires.works coherent).done (sym (ap (λ (w : WorkView). w.was_done) c.self.view_is) ∙ c.if-self.true) it.dn (names_its work.line it.dn it.done its)

pub tell_of-requires-in-Ok-clause-works : goal.tell_of-requires-in-Ok-clause-works
tell_of-requires-in-Ok-clause-works g c coherent =
    let O = g.O.Opened in
    work_still O.coherent O.opening O.bytes O.script (seen_of c.have_done.new.seat) (seen_of c.args.seat.now) c.have_done.ensures.looked.begins c.args.self.now (c.requires.works coherent)

pub tell_of-requires-in-Ok-clause-due : goal.tell_of-requires-in-Ok-clause-due
tell_of-requires-in-Ok-clause-due g c coherent =
    let O = g.O.Opened in
    let work : WorkView = c.args.self.now in
    let it = c.in-Some.field-0 in
    let its : IsCommandOf work.line it.dn it.done = subst (λ (w : WorkView). IsCommandOf w.line it.dn it.done) c.self.view_is c.in-Some.ensures.its in
    let there : it.dn < length O.opening.nodes = omega (arith, c.if-dn-node_count.false, c.node_count.ensures.opened) in
    due_done O.coherent O.opening O.bytes O.script (seen_of c.args.seat.now) (seen_of c.have_done.new.seat) work.line it.dn it.done its coherent there
    (c.requires.works coherent).begun.started c.in-Ok.ensures.came

pub tell_of-requires-in-Err-Halted-clause-works : goal.tell_of-requires-in-Err-Halted-clause-works
tell_of-requires-in-Err-Halted-clause-works g c coherent =
    let O = g.O.Opened in
    work_still O.coherent O.opening O.bytes O.script (seen_of c.have_done.new.seat) (seen_of c.args.seat.now) c.have_done.ensures.looked.begins c.args.self.now (c.requires.works coherent)

pub tell_of-requires-in-Err-Halted-clause-due : goal.tell_of-requires-in-Err-Halted-clause-due
tell_of-requires-in-Err-Halted-clause-due g c coherent =
    let O = g.O.Opened in
    let work : WorkView = c.args.self.now in
    let it = c.in-Some.field-0 in
    let its : IsCommandOf work.line it.dn it.done = subst (λ (w : WorkView). IsCommandOf w.line it.dn it.done) c.self.view_is c.in-Some.ensures.its in
    let came : CameOf O.coherent O.opening O.bytes O.script it.dn it.done c.self.inside.line.now (seen_of c.args.seat.now) (seen_of c.have_done.new.seat) (Err (Halted c.in-Err-Halted.field-0-0)) =
    rw c.in-Err-Halted.field-0-is at c.in-Err-Halted.ensures.came in
    due_halted O.coherent O.opening O.bytes O.script (seen_of c.have_done.new.seat) work.line it.dn it.done c.in-Err-Halted.field-0-0 its came

pub returns-in-Err-Repeated : goal.returns-in-Err-Repeated
returns-in-Err-Repeated g c =
    let O = g.O.Opened in
    let done = c.have_done.ensures.looked in
    let cut = c.cut-in-Err-Repeated in
    record {
      gone = record {
        ready = record {
          of_turn = done.ready.of_turn;
          numbered = done.ready.numbered ∙ c.requires.part.ready.numbered;
          free = done.ready.free;
        };
        room = done.room;
        goes_on = done.begins;
      };
      stays = cut_stays O (seen_of c.have_done.new.seat) (seen_of c.args.seat.now) c.args.self.now cut.new.self _ answers.OutOfMemory done.begins tt cut.ensures
          c.requires.works;
      ended = λ is. absurd (cc is);
    }
