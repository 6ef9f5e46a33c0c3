use Rattle.std.proofs.Common.{All, take}
use Rattle.oz_core.specs.Grants.{IsExcluded}
use Rattle.oz_locks.specs.declared.pool.FreeBlock.{FreeBlock}
use Rattle.oz_locks.proofs.pool.first_allowed.Given as goal

-- all blocks before are excluded
abbrev pub invariant-loop-free : goal.invariant-loop-free
invariant-loop-free l = All (λ (free : FreeBlock). IsExcluded l.exclude free.block free.pipeline) (take l.free-index l.pool)
