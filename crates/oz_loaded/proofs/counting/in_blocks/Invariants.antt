use Rattle.std.proofs.Common.{◌≡◌, max, drop}
use Rattle.oz_loaded.specs.Counted.{greatest_local}
use Rattle.oz_loaded.proofs.counting.in_blocks.Given as goal

abbrev pub invariant-loop-block : goal.invariant-loop-block
invariant-loop-block l = max l.greatest (greatest_local (drop l.block-index l.blocks)) ≡ greatest_local l.blocks
