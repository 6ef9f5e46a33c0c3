use Rattle.std.proofs.Common.{subst, sym}
use Rattle.oz_epochs.specs.Epochs.{EndsBy}
use Rattle.structure_tests.proofs.Ends.{ends_pushed}
use Rattle.structure_tests.proofs.epochs.fill.Goals as goal

pub loop-number-preserved : goal.loop-number-preserved
loop-number-preserved c =
    subst (EndsBy 7) (sym c.push_back.ensures.entries) (ends_pushed 7 c.push_back.result.slot _ c.reserve.new.self.entries)
