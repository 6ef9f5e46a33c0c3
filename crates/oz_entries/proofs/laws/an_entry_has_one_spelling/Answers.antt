use Rattle.oz_entries.specs.laws.Reads.{entry_reads}
use Rattle.oz_entries.proofs.laws.an_entry_has_one_spelling.Goals as goal

pub returns-clause-read_back : goal.returns-clause-read_back
returns-clause-read_back c = λ node. (entry_reads node).reads_back

pub returns-clause-only : goal.returns-clause-only
returns-clause-only c = λ node. (entry_reads node).one_spelling
