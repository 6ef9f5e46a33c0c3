use Rattle.std.proofs.Common.{◌≡◌, take}
use Rattle.oz_service.specs.Splitting.{locals_in}
use Rattle.oz_service.proofs.splitting.locals_of.Given as goal

abbrev pub invariant-loop-block : goal.invariant-loop-block
invariant-loop-block l = l.locals.items ≡ locals_in l.container (take l.block-index l.blocks)
