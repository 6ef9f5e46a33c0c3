use Rattle.std.proofs.Common.{◌≡◌, false, None}
use Rattle.oz_om.specs.Purging.{NoneHadAny}
use Rattle.oz_service.specs.Pass.{GoesOn}
use Rattle.oz_service.proofs.pass.passing.Service+Ledger+O+O+R.purge_all.Given as goal

-- the stripes so far were looked at
abbrev pub invariant-loop-stripe : goal.invariant-loop-stripe
invariant-loop-stripe g l = record {
  none : l.self.waiting ≡ None;
  goes_on : GoesOn l.fn.self l.self;
  idle : l.any ≡ false → NoneHadAny g.O.Opened.coherent g.O.Opened.opening g.L.Loaded.rows l.stripe l.fn.self.seen l.self.seen;
}
