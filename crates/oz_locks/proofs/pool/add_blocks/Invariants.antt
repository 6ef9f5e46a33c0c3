use Rattle.std.proofs.Common.{◌≡◌, ◌+◌, ◌≤◌, ◌++◌, length, vec_capacity}
use Rattle.oz_fields.specs.declared.block.TheConstants.{GREATEST_BLOCK_NUMBER}
use Rattle.oz_locks.specs.Pool.{blocks_of_grant}
use Rattle.oz_locks.proofs.pool.add_blocks.Given as goal

-- so many of the blocks were put behind the pool
abbrev pub invariant-loop-place : goal.invariant-loop-place
invariant-loop-place l = record {
  items : l.first + l.count ≤ GREATEST_BLOCK_NUMBER → l.pool.items ≡ l.fn.pool.items ++ blocks_of_grant l.container l.pipeline l.first l.place;
  count : length l.pool.items ≡ length l.fn.pool.items + l.place;
  room : length l.fn.pool.items + l.count ≤ vec_capacity l.pool;
}
