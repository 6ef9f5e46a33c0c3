use Rattle.std.proofs.Common.{◌≡◌, max}
use Rattle.oz_block.specs.Lists.{greatest_local}
use Rattle.oz_block.proofs.listing.greatest.Given as goal

abbrev pub invariant-loop-block : goal.invariant-loop-block
invariant-loop-block l = max l.greatest (greatest_local l.block-iterator) ≡ greatest_local l.rows.entries
