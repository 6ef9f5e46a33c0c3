use Rattle.std.proofs.Common.{◌≡◌, ◌-◌, ◌≤◌, None, All, length, take}
use Rattle.oz_service.specs.Pass.{GoesOn}
use Rattle.oz_service.specs.Purges.{WasPurged}
use Rattle.oz_service.proofs.pass.purging.Service+Ledger+O+O+R.purge_rows.Given as goal

-- the rows so far were purged
abbrev pub invariant-loop-place : goal.invariant-loop-place
invariant-loop-place g l = record {
  within : l.place ≤ length l.rows;
  none : l.self.waiting ≡ None;
  goes_on : GoesOn l.fn.self l.self;
  risen : l.fn.self.purged_to ≤ l.self.purged_to;
  purged : g.O.Opened.coherent → All (WasPurged g.O.Opened.opening l.fn.self.seen l.self.seen l.self.purged_to) (take l.place l.rows);
}

abbrev pub decreases-loop-place : goal.decreases-loop-place
decreases-loop-place g l = length l.rows - l.place
