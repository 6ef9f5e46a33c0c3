use Rattle.std.proofs.Common.{◌≤◌, All, IfSome, take}
use Rattle.oz_service.specs.Splitting.{IsPassed}
use Rattle.oz_service.proofs.splitting.next_container.Given as goal

abbrev pub invariant-loop-block : goal.invariant-loop-block
invariant-loop-block l = record {
  found : IfSome l.found (λ found. l.least ≤ found);
  passed : All (IsPassed l.least l.found) (take l.block-index l.blocks);
}
