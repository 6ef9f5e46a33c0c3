use Rattle.oz_store.specs.striped.laws.Indexes.{decided_within, durable_within_last, flushed_within, opening_within, swapped_within, taken_within}
use Rattle.oz_store.proofs.striped.events.no_index_is_above_the_last.Goals as goal

pub returns-clause-opened : goal.returns-clause-opened
returns-clause-opened c = λ opening story legal. opening_within opening story legal

pub returns-clause-taken : goal.returns-clause-taken
returns-clause-taken c = λ opening story legal. swapped_within opening story legal

pub returns-clause-stable : goal.returns-clause-stable
returns-clause-stable c = λ opening story legal. durable_within_last opening story legal

pub returns-clause-decides : goal.returns-clause-decides
returns-clause-decides c = λ opening story seat id index reply batch legal among. decided_within opening story legal seat id index reply batch among

pub returns-clause-swaps : goal.returns-clause-swaps
returns-clause-swaps c = λ opening story seat index legal among. taken_within opening story legal seat index among

pub returns-clause-flushes : goal.returns-clause-flushes
returns-clause-flushes c = λ opening story seat index moment legal among. flushed_within opening story legal seat index moment among
