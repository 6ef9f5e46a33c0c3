use Rattle.std.proofs.Common.{◌<◌, length, rules}
use Rattle.structure_tests.proofs.turns.ended.Goals as goal

pub close-requires-clause-all : goal.close-requires-clause-all
close-requires-clause-all c n below =
    let less : n < length c.args.seats.items = search rules in
    c.ready_seats_may_close.ensures.all _ _ n c.requires.ready less
