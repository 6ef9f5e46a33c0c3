use Rattle.oz_nodes_loaded.specs.store_opening.laws.Digests.{intact_are}
use Rattle.oz_nodes_loaded.proofs.store_opening.laws.bytes_that_are_intact_have_their_digests.Goals as goal

pub returns : goal.returns
returns c = λ row slots content. intact_are row slots content
