use Rattle.std.proofs.Common.{length}
use Rattle.oz_service.specs.Splitting.{AreInOrder, locals_in}
use Rattle.oz_service.proofs.Splits.{Split}
use Rattle.oz_service.proofs.splitting.add_of.Given as goal

abbrev pub invariant-loop-rest : goal.invariant-loop-rest
invariant-loop-rest l = record {
  split : Split l.container (locals_in l.container l.fn.blocks) l.fn.txns.items l.txns.items l.rest;
  in_order : AreInOrder l.last l.txns.items;
}

abbrev pub decreases-loop-rest : goal.decreases-loop-rest
decreases-loop-rest l = length l.rest
