use Rattle.oz_node_events.specs.filled.laws.Slots.{counted, within_all}
use Rattle.oz_node_events.proofs.filled.laws.slots_are_taken_by_blocks_or_chunks.Goals as goal

pub returns-clause-within : goal.returns-clause-within
returns-clause-within c = λ node blocks has held. within_all node has blocks held

pub returns-clause-full : goal.returns-clause-full
returns-clause-full c = λ node blocks chunks has held full. counted node has blocks chunks held full
