use Rattle.std.proofs.Common.{◌+◌, take, sym, subst}
use Rattle.oz_reclaim.specs.sweep.Filing.{IsGreatest}
use Rattle.oz_reclaim.proofs.sweep_lemmas.Dates.{greatest_more}
use Rattle.oz_reclaim.proofs.sweep.marks.left_at.Goals as goal

pub loop-entry-preserved : goal.loop-entry-preserved
loop-entry-preserved c =
    subst (IsGreatest (take (c.loop-entry.entry-index + 1) c.args.entries.now) c.args.block.now) (sym c.later_of-left.ensures)
    (greatest_more c.args.entries.now c.loop-entry.entry-index c.entry-item.result c.args.block.now c.loop-entry.left c.loop-entry-test.true c.entry-item.is c.loop-entry.invariant)
