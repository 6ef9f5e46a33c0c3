use Rattle.std.proofs.Common.{take}
use Rattle.oz_report.proofs.Reports.{IsPrinted}
use Rattle.oz_report.proofs.report.text.Given as goal

abbrev pub invariant-loop-event : goal.invariant-loop-event
invariant-loop-event l = IsPrinted (take l.event-index l.story) l.out.items l.pending l.told
