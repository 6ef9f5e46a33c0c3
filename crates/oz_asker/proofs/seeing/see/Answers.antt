use Rattle.oz_turn.specs.Seat.{seen_of}
use Rattle.oz_asker.specs.laws.Indexes.{decided_there}
use Rattle.oz_asker.proofs.seeing.see.Goals as goal

pub returns-then-sees-clause-decided : goal.returns-then-sees-clause-decided
returns-then-sees-clause-decided g c =
    decided_there c.args.id c.args.reply.now (seen_of c.sees.new.seat) c.args.place (c.sees.ensures.seen c.if-sees.true)
