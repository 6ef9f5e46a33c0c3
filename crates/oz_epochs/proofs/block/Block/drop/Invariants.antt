use Rattle.std.proofs.Common.{◌≡◌, ◌+◌, length}
use Rattle.oz_epochs.proofs.block.Block.drop.Given as goal

abbrev pub invariant-loop-self : goal.invariant-loop-self
invariant-loop-self g l = (l.self-inside.count ≡ length l.self-inside.raw.items) × (l.self-inside.capacity ≡ length l.self-inside.raw.items + l.self-inside.raw.room)

abbrev pub decreases-loop-self : goal.decreases-loop-self
decreases-loop-self g l = l.self-inside.count
