use Rattle.std.proofs.Common.{◌≡◌, None}
use Rattle.oz_service.specs.Pass.{GoesOn}
use Rattle.oz_service.proofs.pass.passing.Service+Ledger+O+O+R.work_off.Given as goal

-- nothing that it asked waits
abbrev pub invariant-loop : goal.invariant-loop
invariant-loop g l = record {
  none : l.self.waiting ≡ None;
  goes_on : GoesOn l.fn.self l.self;
}
