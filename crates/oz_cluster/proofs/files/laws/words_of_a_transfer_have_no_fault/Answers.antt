use Rattle.oz_cluster.proofs.TransferWords.{transfer_has_no_fault}
use Rattle.oz_cluster.proofs.files.laws.words_of_a_transfer_have_no_fault.Goals as goal

pub returns : goal.returns
returns c = transfer_has_no_fault
