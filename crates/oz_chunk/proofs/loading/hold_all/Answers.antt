use Rattle.std.proofs.Common.{arith, refl}
use Rattle.oz_chunk.proofs.Holding.{holds_none, holds_more, holds_all}
use Rattle.oz_chunk.proofs.loading.hold_all.Goals as goal

pub loop-slot-init : goal.loop-slot-init
loop-slot-init c = holds_none _ _ c.requires

pub loop-slot-preserved : goal.loop-slot-preserved
loop-slot-preserved c = holds_more _ c.loop-slot.slot-index _ _ _ c.loop-slot.invariant (omega arith) refl c.hold.ensures

pub returns : goal.returns
returns c = holds_all _ c.loop-slot.slot-index _ c.loop-slot.invariant (omega arith)
