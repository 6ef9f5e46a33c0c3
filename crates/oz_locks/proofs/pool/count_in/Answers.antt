use Rattle.std.proofs.Common.{sym}
use Rattle.oz_locks.proofs.Pools.{so_many_blocks}
use Rattle.oz_locks.proofs.pool.count_in.Goals as goal

pub returns-in-Grant : goal.returns-in-Grant
returns-in-Grant c = sym (so_many_blocks _ _ _ _ _ _ _ c.in-Grant.is c.if-stripe-of_stripe.true)
