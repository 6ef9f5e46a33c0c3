use Rattle.std.proofs.Common.{◌≡◌, ◌-◌}
use Rattle.oz_rows.specs.Reading.{with_front, items_at, block_at}
use Rattle.oz_rows.proofs.decoding.more_blocks.Given as goal

abbrev pub invariant-loop : goal.invariant-loop
invariant-loop l = with_front l.gathered.items (items_at block_at (l.count - l.counter)) l.rest ≡ with_front l.fn.before.items (items_at block_at l.count) l.bytes
