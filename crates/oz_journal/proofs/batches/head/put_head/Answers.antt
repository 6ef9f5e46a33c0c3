use Rattle.oz_journal.proofs.batches_lemmas.Heads.{head_put}
use Rattle.oz_journal.proofs.batches.head.put_head.Goals as goal

pub returns-clause-body : goal.returns-clause-body
returns-clause-body c = head_put c.args.framed.now c.write_u64.new.buf c.args.index c.requires c.write_u64.ensures
