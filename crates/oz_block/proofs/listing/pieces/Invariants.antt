use Rattle.std.proofs.Common.{◌≡◌, ◌++◌, filter_map}
use Rattle.oz_block.specs.Lists.{piece_of}
use Rattle.oz_block.proofs.listing.pieces.Given as goal

abbrev pub invariant-loop-block : goal.invariant-loop-block
invariant-loop-block l = l.pieces.items ++ filter_map piece_of l.block-iterator ≡ filter_map piece_of l.rows.entries
