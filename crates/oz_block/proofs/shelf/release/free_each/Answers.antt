use Rattle.std.proofs.Common.{arith}
use Rattle.oz_block.proofs.shelf_lemmas.Releasing.{releases_none, releases_more, releases_all}
use Rattle.oz_block.proofs.shelf.release.free_each.Goals as goal

pub loop-number-init : goal.loop-number-init
loop-number-init g c = releases_none _ _

pub loop-number-preserved : goal.loop-number-preserved
loop-number-preserved g c = releases_more _ _ _ _ _ _ c.args.numbers.now c.loop-number.number-index _ c.loop-number.invariant (omega arith) c.free.ensures.free c.free.ensures.disk

pub returns-clause-free : goal.returns-clause-free
returns-clause-free g c = releases_all _ _ _ _ _ c.loop-number.number-index c.loop-number.invariant (omega arith)

pub returns-clause-disk : goal.returns-clause-disk
returns-clause-disk g c = c.loop-number.invariant.disk_same
