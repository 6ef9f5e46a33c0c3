use Rattle.std.proofs.Common.{◌∙◌}
use Rattle.oz_turn.specs.Seat.{seen_of}
use Rattle.oz_underway.specs.laws.Going.{begins_through}
use Rattle.oz_at_work.proofs.at_work.LineAtWork.write_next.Goals as goal

pub returns-clause-gone : goal.returns-clause-gone
returns-clause-gone g c = record {
  ready = c.take_down.ensures.gone.ready;
  room = c.take_down.ensures.gone.room ∙ c.write-did.ensures.gone.room;
  goes_on = begins_through (seen_of c.take_down.new.seat) (seen_of c.write-did.new.seat) (seen_of c.args.seat.now)
      c.take_down.ensures.gone.goes_on c.write-did.ensures.gone.goes_on;
}

pub returns-clause-stays : goal.returns-clause-stays
returns-clause-stays g c = record {
  line = c.take_down.ensures.line ∙ c.write-did.ensures.stays.line;
  works = c.take_down.ensures.works;
  went_on = λ is. c.take_down.ensures.went_on c.args.self.now (c.write-did.ensures.stays.went_on is);
}
