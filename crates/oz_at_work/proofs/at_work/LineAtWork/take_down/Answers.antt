use Rattle.oz_requests.specs.declared.answer.Answer.TheVariants as answers
use Rattle.oz_turn.specs.Seat.{seen_of}
use Rattle.oz_underway.specs.laws.Going.{begins_through}
use Rattle.oz_at_work.proofs.Cutting.{cut_goes_on, cut_so}
use Rattle.oz_at_work.proofs.Staying.{work_still}
use Rattle.oz_at_work.proofs.at_work.LineAtWork.take_down.Goals as goal

pub returns-then-is_none-clause-works : goal.returns-then-is_none-clause-works
returns-then-is_none-clause-works g c coherent =
    let O = g.O.Opened in
    work_still O.coherent O.opening O.bytes O.script (seen_of c.left_up.new.seat) (seen_of c.args.seat.now) c.left_up.ensures.goes_on c.args.self.now (c.requires.works coherent)

pub returns-in_default-clause-works : goal.returns-in_default-clause-works
returns-in_default-clause-works g c coherent =
    let O = g.O.Opened in
    let seen = seen_of c.args.seat.now in
    let later = seen_of c.take_down_halted.new.seat in
    work_still O.coherent O.opening O.bytes O.script later seen
    (begins_through later (seen_of c.left_up.new.seat) seen c.take_down_halted.ensures.looked.begins c.left_up.ensures.goes_on) c.args.self.now (c.requires.works coherent)

pub returns-clause-works : goal.returns-clause-works
returns-clause-works g c coherent =
    let O = g.O.Opened in
    let seen = seen_of c.args.seat.now in
    let later = seen_of c.take_down_halted.new.seat in
    cut_so O.coherent O.opening O.bytes O.script later seen c.args.self.now c.cut.new.self _ answers.OutOfMemory coherent
    (begins_through later (seen_of c.left_up.new.seat) seen c.take_down_halted.ensures.looked.begins c.left_up.ensures.goes_on) tt c.cut.ensures (c.requires.works coherent)

pub returns-clause-went_on : goal.returns-clause-went_on
returns-clause-went_on g c before went = cut_goes_on before c.args.self.now c.cut.new.self _ answers.OutOfMemory c.cut.ensures
