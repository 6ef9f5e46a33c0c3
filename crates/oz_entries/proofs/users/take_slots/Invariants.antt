use Rattle.std.proofs.Common.{take, Some}
use Rattle.oz_entries.proofs.SlotUsers.{Gives}
use Rattle.oz_entries.proofs.users.take_slots.Given as goal

abbrev pub invariant-loop-chunk : goal.invariant-loop-chunk
invariant-loop-chunk l = Gives l.fn.users.items l.users.items (take l.chunk-index l.chunks) (Some l.block)
