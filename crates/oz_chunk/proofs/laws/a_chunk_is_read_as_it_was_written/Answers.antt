use Rattle.oz_chunk.specs.laws.Keeping.{stands, begins}
use Rattle.oz_chunk.proofs.laws.a_chunk_is_read_as_it_was_written.Goals as goal

pub returns-clause-stands : goal.returns-clause-stands
returns-clause-stands c = stands

pub returns-clause-begins : goal.returns-clause-begins
returns-clause-begins c = begins
