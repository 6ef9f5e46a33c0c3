use Rattle.oz_locks.proofs.Pools.{free_is_in_pool, pool_is_free}
use Rattle.oz_locks.proofs.laws.a_pool_has_what_is_free.Goals as goal

pub returns : goal.returns
returns c stripe known mine free = (pool_is_free stripe known mine free, free_is_in_pool stripe known mine free)
