use Rattle.std.proofs.Common.{◌≡◌, take}
use Rattle.oz_locks.specs.Pins.{pinned_blocks}
use Rattle.oz_locks.proofs.pins.pinned_blocks.Given as goal

-- the block of each pin that was looked at
abbrev pub invariant-loop-pin : goal.invariant-loop-pin
invariant-loop-pin l = l.blocks.items ≡ pinned_blocks (take l.pin-index l.pins)
