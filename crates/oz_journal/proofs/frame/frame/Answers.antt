use Rattle.oz_journal.proofs.Frames.{framed_is}
use Rattle.oz_journal.proofs.frame.frame.Goals as goal

pub returns : goal.returns
returns c = framed_is c.args.framed.now c.write_u32.new.buf c.requires.least c.write_u32.ensures
