use Rattle.std.proofs.Common.{arith}
use Rattle.oz_journal.proofs.Opens.{emptied_rests}
use Rattle.oz_journal.proofs.journal.Journal.clear.Goals as goal

pub invariant_of-self-2 : goal.invariant_of-self-2
invariant_of-self-2 g c = (omega arith, λ still. emptied_rests _ _ _ _ c.in-Ok.ensures.written c.in-Ok.ensures.stable)
