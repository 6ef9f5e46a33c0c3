use Rattle.oz_cluster.proofs.TransferWords.{one_transfer}
use Rattle.oz_cluster.proofs.files.laws.words_are_one_transfer.Goals as goal

pub returns : goal.returns
returns c = one_transfer c.words_are_one_run.ensures.nodes
