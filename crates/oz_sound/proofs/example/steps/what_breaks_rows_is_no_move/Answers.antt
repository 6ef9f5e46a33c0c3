use Rattle.oz_sound.proofs.example_lemmas.Breaking.{lost, twice, count, number}
use Rattle.oz_sound.proofs.example.steps.what_breaks_rows_is_no_move.Goals as goal

pub returns-clause-lost : goal.returns-clause-lost
returns-clause-lost c = lost

pub returns-clause-twice : goal.returns-clause-twice
returns-clause-twice c = twice

pub returns-clause-number : goal.returns-clause-number
returns-clause-number c = number

pub returns-clause-count : goal.returns-clause-count
returns-clause-count c = λ granted n lt moved. count n granted lt moved
