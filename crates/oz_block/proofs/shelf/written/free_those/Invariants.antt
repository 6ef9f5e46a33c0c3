use Rattle.std.proofs.Common.{take}
use Rattle.oz_block.specs.shelf.Steps.{is_meant}
use Rattle.oz_block.proofs.shelf_lemmas.Freeing.{Frees}
use Rattle.oz_block.proofs.shelf.written.free_those.Given as goal

abbrev pub invariant-loop-one : goal.invariant-loop-one
invariant-loop-one g l = Frees (is_meant l.which) l.fn.slots.disk l.slots.disk l.fn.slots.taken l.slots.taken (take l.one-index l.written)
