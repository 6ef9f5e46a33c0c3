use Rattle.oz_requests.specs.declared.answer.Answer.TheVariants as answers
use Rattle.oz_turn.specs.Seat.{seen_of}
use Rattle.oz_underway.specs.laws.Going.{begins_itself}
use Rattle.oz_at_work.proofs.Cutting.{cut_stays}
use Rattle.oz_at_work.proofs.at_work.LineAtWork.refuse.Goals as goal

pub returns-in-Stopped-clause-stays : goal.returns-in-Stopped-clause-stays
returns-in-Stopped-clause-stays g c =
    let O = g.O.Opened in
    let seen = seen_of c.args.seat.now in
    cut_stays O seen seen c.args.self.now c.cut.new.self c.args.step answers.ManagerStopped (begins_itself seen) c.requires.step c.cut.ensures c.requires.works

pub returns-in-PoolEmpty-clause-stays : goal.returns-in-PoolEmpty-clause-stays
returns-in-PoolEmpty-clause-stays g c =
    let O = g.O.Opened in
    let seen = seen_of c.args.seat.now in
    cut_stays O seen seen c.args.self.now c.cut-in-PoolEmpty.new.self _ answers.OutOfMemory (begins_itself seen) tt c.cut-in-PoolEmpty.ensures c.requires.works
