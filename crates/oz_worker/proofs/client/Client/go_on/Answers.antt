use Rattle.std.proofs.Common.{Option, Some, None, IfSome, ◌≡◌, sym, ap, subst, ◌∙◌}
use Rattle.oz_at_work.specs.AtWork.{WorkView}
use Rattle.oz_script.specs.declared.lines.script.Line.{Line}
use Rattle.oz_turn.specs.Seat.{seen_of}
use Rattle.oz_worker.specs.declared.client.Client.{Client}
use Rattle.oz_worker.specs.Served.{IsServed, next_line}
use Rattle.oz_worker.proofs.Served.{served_still, with_work, without_work}
use Rattle.oz_worker.proofs.client.Client.go_on.Goals as goal

pub returns-in-Ended-clause-served : goal.returns-in-Ended-clause-served
returns-in-Ended-clause-served g c =
    let still = served_still g.O.Opened.coherent g.O.Opened.opening g.O.Opened.bytes g.O.Opened.script (seen_of c.go_on.new.seat) (seen_of c.args.seat.now)
    (λ work. c.what_is_at_work_stays.ensures.works (seen_of c.args.seat.now) (seen_of c.go_on.new.seat) work c.go_on.ensures.gone.goes_on)
    (λ line left. c.what_is_at_work_stays.ensures.left (seen_of c.args.seat.now) (seen_of c.go_on.new.seat) line left c.go_on.ensures.gone.goes_on)
    c.args.self.now c.requires.served in
    let none : c.take.new.self ≡ None = cc in
    c.end.ensures.served (seen_of c.go_on.new.seat)
    (without_work g.O.Opened.coherent g.O.Opened.opening g.O.Opened.bytes g.O.Opened.script (seen_of c.go_on.new.seat) c.args.self.now c.take.new.self none still)
    (λ coherent. c.go_on.ensures.ended c.in-Ended.is coherent)

pub returns-in_default-go_on : goal.returns-in_default-go_on
returns-in_default-go_on g c =
    let still = served_still g.O.Opened.coherent g.O.Opened.opening g.O.Opened.bytes g.O.Opened.script (seen_of c.go_on.new.seat) (seen_of c.args.seat.now)
    (λ work. c.what_is_at_work_stays.ensures.works (seen_of c.args.seat.now) (seen_of c.go_on.new.seat) work c.go_on.ensures.gone.goes_on)
    (λ line left. c.what_is_at_work_stays.ensures.left (seen_of c.args.seat.now) (seen_of c.go_on.new.seat) line left c.go_on.ensures.gone.goes_on)
    c.args.self.now c.requires.served in
    let had : c.args.self.now.work ≡ Some c.in-Some.work = cc in
    let at = subst (λ (w : Option WorkView). IfSome w (λ work. next_line g.O.Opened.script c.args.self.now ≡ Some work.line)) had still.next in
    record {
      gone = record { ready = c.go_on.ensures.gone.ready; goes_on = c.go_on.ensures.gone.goes_on };
      served = subst (λ (client : Client). IsServed g.O.Opened.coherent g.O.Opened.opening g.O.Opened.bytes g.O.Opened.script (seen_of c.go_on.new.seat) client) (sym c.keep.ensures)
          (with_work g.O.Opened.coherent g.O.Opened.opening g.O.Opened.bytes g.O.Opened.script (seen_of c.go_on.new.seat) c.args.self.now c.go_on.new.self still
          (at ∙ ap (λ (l : Line). Some l) (sym c.go_on.ensures.stays.line)) c.go_on.ensures.stays.works);
      number = ap (λ (client : Client). client.number) c.keep.ensures;
    }
