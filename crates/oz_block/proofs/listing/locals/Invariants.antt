use Rattle.std.proofs.Common.{◌≡◌, ◌++◌, filter_map}
use Rattle.oz_block.specs.Lists.{local_of}
use Rattle.oz_block.proofs.listing.locals.Given as goal

abbrev pub invariant-loop-block : goal.invariant-loop-block
invariant-loop-block l = l.locals.items ++ filter_map (local_of l.container) l.block-iterator ≡ filter_map (local_of l.container) l.rows.entries
