use Rattle.oz_requests.specs.declared.answer.Answer.TheVariants as answers
use Rattle.oz_turn.specs.Seat.{seen_of}
use Rattle.oz_underway.specs.laws.Going.{begins_through}
use Rattle.oz_at_work.proofs.Cutting.{cut_stays}
use Rattle.oz_at_work.proofs.Staying.{work_still}
use Rattle.oz_at_work.proofs.at_work.LineAtWork.ask_for_more.Goals as goal

pub returns-then-is_err-clause-stays : goal.returns-then-is_err-clause-stays
returns-then-is_err-clause-stays g c =
    let O = g.O.Opened in
    cut_stays O (seen_of c.take_down_halted.new.seat) (seen_of c.args.seat.now) c.args.self.now c.cut-then-is_err.new.self _ answers.OutOfMemory c.take_down_halted.ensures.looked.begins tt c.cut-then-is_err.ensures c.requires.works

pub ask_once-requires-clause-works : goal.ask_once-requires-clause-works
ask_once-requires-clause-works g c coherent =
    let O = g.O.Opened in
    let seen = seen_of c.args.seat.now in
    let later = seen_of c.story_length-place.new.seat in
    work_still O.coherent O.opening O.bytes O.script later seen
    (begins_through later (seen_of c.take_down_halted.new.seat) seen c.story_length-place.ensures.goes_on c.take_down_halted.ensures.looked.begins)
    c.args.self.now (c.requires.works coherent)
