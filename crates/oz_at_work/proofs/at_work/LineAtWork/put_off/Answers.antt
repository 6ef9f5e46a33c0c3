use Rattle.oz_requests.specs.declared.answer.Answer.TheVariants as answers
use Rattle.oz_turn.specs.Seat.{seen_of}
use Rattle.oz_underway.specs.laws.Going.{begins_itself}
use Rattle.oz_at_work.proofs.Cutting.{cut_stays}
use Rattle.oz_at_work.proofs.at_work.LineAtWork.put_off.Goals as goal

pub returns-in-OtherAsk-Some-clause-stays : goal.returns-in-OtherAsk-Some-clause-stays
returns-in-OtherAsk-Some-clause-stays g c =
    let O = g.O.Opened in
    let seen = seen_of c.args.seat.now in
    cut_stays O seen seen c.args.self.now c.cut.new.self _ answers.OutOfMemory (begins_itself seen) tt c.cut.ensures c.requires.works
