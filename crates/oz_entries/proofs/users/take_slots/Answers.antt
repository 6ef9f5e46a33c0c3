use Rattle.std.proofs.Common.{arith}
use Rattle.oz_entries.proofs.SlotUsers.{gives_none, gives_more, gives_all}
use Rattle.oz_entries.proofs.users.take_slots.Goals as goal

pub loop-chunk-init : goal.loop-chunk-init
loop-chunk-init c = gives_none _ _

pub loop-chunk-preserved : goal.loop-chunk-preserved
loop-chunk-preserved c = gives_more _ _ _ c.args.chunks.now c.loop-chunk.chunk-index _ _ c.loop-chunk.invariant (omega arith) c.set_user.ensures.count c.set_user.ensures.there

pub returns-clause-count : goal.returns-clause-count
returns-clause-count c = c.loop-chunk.invariant.count

pub returns-clause-taken : goal.returns-clause-taken
returns-clause-taken c = gives_all _ _ _ c.loop-chunk.chunk-index _ c.loop-chunk.invariant (omega arith)
