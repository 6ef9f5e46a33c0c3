use Rattle.std.proofs.Common.{length}
use Rattle.oz_journal.proofs.Scans.{IsScanned}
use Rattle.oz_journal.proofs.scan.scan.Given as goal

abbrev pub invariant-records : goal.invariant-records
invariant-records l = IsScanned l.bytes l.rest l.bodies.items

abbrev pub decreases-records : goal.decreases-records
decreases-records l = length l.rest
