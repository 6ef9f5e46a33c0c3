use Rattle.std.proofs.Common.{◌≡◌, take}
use Rattle.oz_report.specs.Report.{told_count}
use Rattle.oz_report.proofs.summing.told_in.Given as goal

abbrev pub invariant-loop-event : goal.invariant-loop-event
invariant-loop-event l = l.told ≡ told_count (take l.event-index l.story)
