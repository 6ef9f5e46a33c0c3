-- For private calls: which of the chunks that were written are meant.
use Rattle.std.specs.Prelude.{Bool}
use Rattle.oz_block.specs.declared.shelf.written.Which.{Which}
use Rattle.oz_block.specs.declared.shelf.written.Which.TheVariants.{AllOf, OneOf}
use Rattle.oz_block.specs.declared.shelf.written.Written.{Written}
use Rattle.oz_block.specs.shelf.Written.{is_of, is_at}

abbrev pub is_meant : Which → Written → Bool
is_meant (AllOf block) one = is_of block one
is_meant (OneOf block place) one = is_at block place one
