use Rattle.oz_turn.specs.Seat.{mine_of, seen_of}
use Rattle.oz_service.proofs.Going.{asked_one}
use Rattle.oz_service.proofs.Waits.{logged_on}
use Rattle.oz_service.proofs.pass.service.ask_at.Goals as goal

pub returns-clause-mine : goal.returns-clause-mine
returns-clause-mine g c =
    asked_one (seen_of c.ask_service.new.seat) (mine_of c.args.seat.now) (mine_of c.ask_service.new.seat) c.args.request c.ask_service.ensures.own

pub returns-clause-awaits : goal.returns-clause-awaits
returns-clause-awaits g c = λ coherent. (
  logged_on (seen_of c.args.seat.now) (seen_of c.ask_service.new.seat) c.args.request c.ask_service.ensures.goes_on (c.requires.awaits coherent).0,
  c.ask_service.ensures.same coherent,
)
