use Rattle.std.proofs.Common.{Some, ◌≡◌, sym, ap, subst, ◌∙◌}
use Rattle.std.specs.Option.{option_copied, option_map}
use Rattle.oz_script.specs.declared.lines.script.Line.{Line}
use Rattle.oz_turn.specs.Seat.{seen_of}
use Rattle.oz_worker.specs.declared.client.Client.{Client}
use Rattle.oz_worker.specs.Served.{IsServed, next_line}
use Rattle.oz_worker.proofs.Served.{may_begin, next_is, served_still, with_work}
use Rattle.oz_worker.proofs.client.Client.begin.Goals as goal

pub returns-then-not-has_started-clause-served : goal.returns-then-not-has_started-clause-served
returns-then-not-has_started-clause-served g c =
    served_still g.O.Opened.coherent g.O.Opened.opening g.O.Opened.bytes g.O.Opened.script (seen_of c.has_started.new.seat) (seen_of c.args.seat.now)
    (λ work. c.what_is_at_work_stays.ensures.works (seen_of c.args.seat.now) (seen_of c.has_started.new.seat) work c.has_started.ensures.goes_on)
    (λ line left. c.what_is_at_work_stays.ensures.left (seen_of c.args.seat.now) (seen_of c.has_started.new.seat) line left c.has_started.ensures.goes_on)
    c.args.self.now c.requires.served

pub returns-in_default-label_for-clause-served : goal.returns-in_default-label_for-clause-served
returns-in_default-label_for-clause-served g c =
    served_still g.O.Opened.coherent g.O.Opened.opening g.O.Opened.bytes g.O.Opened.script (seen_of c.has_started.new.seat) (seen_of c.args.seat.now)
    (λ work. c.what_is_at_work_stays.ensures.works (seen_of c.args.seat.now) (seen_of c.has_started.new.seat) work c.has_started.ensures.goes_on)
    (λ line left. c.what_is_at_work_stays.ensures.left (seen_of c.args.seat.now) (seen_of c.has_started.new.seat) line left c.has_started.ensures.goes_on)
    c.args.self.now c.requires.served

pub returns-in-Ok-clause-served : goal.returns-in-Ok-clause-served
returns-in-Ok-clause-served g c =
    let at : next_line g.O.Opened.script c.args.self.now ≡ Some c.in-Some.line.now =
    next_is g.O.Opened.script c.args.self.now c.in-Some.line c.requires.served.lines (sym c.next_line.ensures ∙ c.in-Some.is) in
    let still = served_still g.O.Opened.coherent g.O.Opened.opening g.O.Opened.bytes g.O.Opened.script (seen_of c.has_started.new.seat) (seen_of c.args.seat.now)
    (λ work. c.what_is_at_work_stays.ensures.works (seen_of c.args.seat.now) (seen_of c.has_started.new.seat) work c.has_started.ensures.goes_on)
    (λ line left. c.what_is_at_work_stays.ensures.left (seen_of c.args.seat.now) (seen_of c.has_started.new.seat) line left c.has_started.ensures.goes_on)
    c.args.self.now c.requires.served in
    let may = λ (coherent : g.O.Opened.coherent).
    may_begin g.O.Opened.coherent g.O.Opened.opening g.O.Opened.bytes g.O.Opened.script (seen_of c.has_started.new.seat) c.args.self.now c.in-Some.line.now (option_copied c.in-Some-label_for.label)
    (λ opened name left. c.a_label_was_left.ensures.commits (seen_of c.has_started.new.seat) c.in-Some.line.now opened name left)
    (c.a_label_was_left.ensures.other (seen_of c.has_started.new.seat) c.in-Some.line.now (option_copied c.in-Some-label_for.label))
    c.requires.numbered at (c.has_started.ensures.started.0 c.if-not-has_started.false) still coherent
    (sym c.label_for.ensures ∙ ap (option_map option_copied) c.in-Some-label_for.is) in
    subst (λ (client : Client). IsServed g.O.Opened.coherent g.O.Opened.opening g.O.Opened.bytes g.O.Opened.script (seen_of c.has_started.new.seat) client) (sym c.keep.ensures)
    (with_work g.O.Opened.coherent g.O.Opened.opening g.O.Opened.bytes g.O.Opened.script (seen_of c.has_started.new.seat) c.args.self.now c.in-Ok.work still (at ∙ ap (λ (l : Line). Some l) (sym c.in-Ok.ensures.line))
    (λ coherent. c.in-Ok.ensures.works coherent (seen_of c.has_started.new.seat) c.has_started.ensures.follow (may coherent)))

pub returns-in-Err-clause-served : goal.returns-in-Err-clause-served
returns-in-Err-clause-served g c =
    served_still g.O.Opened.coherent g.O.Opened.opening g.O.Opened.bytes g.O.Opened.script (seen_of c.has_started.new.seat) (seen_of c.args.seat.now)
    (λ work. c.what_is_at_work_stays.ensures.works (seen_of c.args.seat.now) (seen_of c.has_started.new.seat) work c.has_started.ensures.goes_on)
    (λ line left. c.what_is_at_work_stays.ensures.left (seen_of c.args.seat.now) (seen_of c.has_started.new.seat) line left c.has_started.ensures.goes_on)
    c.args.self.now c.requires.served
