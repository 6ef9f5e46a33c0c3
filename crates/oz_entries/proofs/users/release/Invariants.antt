use Rattle.std.proofs.Common.{take, None}
use Rattle.oz_entries.proofs.SlotUsers.{Gives}
use Rattle.oz_entries.proofs.users.release.Given as goal

abbrev pub invariant-loop-chunk : goal.invariant-loop-chunk
invariant-loop-chunk l = Gives l.fn.users.items l.users.items (take l.chunk-index l.chunks) None
