use Rattle.std.proofs.Common.{take}
use Rattle.oz_block.proofs.shelf_lemmas.Releasing.{Releases}
use Rattle.oz_block.proofs.shelf.release.free_each.Given as goal

abbrev pub invariant-loop-number : goal.invariant-loop-number
invariant-loop-number g l = Releases l.fn.slots.disk l.slots.disk l.fn.slots.taken l.slots.taken (take l.number-index l.numbers)
