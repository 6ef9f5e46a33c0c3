use Rattle.oz_repl.specs.written.laws.Final.{stays_written}
use Rattle.oz_repl.proofs.written.laws.what_was_written_is_final.Goals as goal

pub returns : goal.returns
returns c = λ opening bytes script story behind line apart legal fits there enough. stays_written opening bytes script
    apart line there story behind legal fits.steps enough
