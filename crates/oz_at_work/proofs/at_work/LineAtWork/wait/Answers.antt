use Rattle.std.proofs.Common.{refl}
use Rattle.oz_requests.specs.declared.answer.Answer.TheVariants as answers
use Rattle.oz_turn.specs.Seat.{seen_of}
use Rattle.oz_at_work.proofs.Cutting.{cut_stays}
use Rattle.oz_at_work.proofs.Staying.{work_still}
use Rattle.oz_at_work.proofs.at_work.LineAtWork.wait.Goals as goal

pub returns-in-Unacknowledged-clause-stays : goal.returns-in-Unacknowledged-clause-stays
returns-in-Unacknowledged-clause-stays g c =
    let O = g.O.Opened in
    cut_stays O (seen_of c.settle_line.new.seat) (seen_of c.args.seat.now) c.args.self.now c.cut.new.self _ answers.Unacknowledged c.settle_line.ensures.goes_on tt c.cut.ensures c.requires.works

pub returns-in-Stable-clause-stays : goal.returns-in-Stable-clause-stays
returns-in-Stable-clause-stays g c =
    let O = g.O.Opened in
    record {
      line = refl;
      works = λ coherent. work_still O.coherent O.opening O.bytes O.script (seen_of c.settle_line.new.seat) (seen_of c.args.seat.now)
          c.settle_line.ensures.goes_on c.args.self.now (c.requires.works coherent);
      went_on = λ wrong. absurd cc;
    }
