use Rattle.oz_datanode.proofs.AnyOrder.{parts_make}
use Rattle.oz_datanode.proofs.laws.parts_make_a_block.Goals as goal

pub returns : goal.returns
returns c = parts_make
