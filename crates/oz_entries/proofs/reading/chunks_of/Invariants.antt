use Rattle.std.proofs.Common.{◌≡◌, ◌-◌, []}
use Rattle.oz_entries.specs.Held.{node_of}
use Rattle.oz_entries.specs.Node.{is_used}
use Rattle.oz_entries.specs.Reading.{each_at, next_chunk_at}
use Rattle.oz_entries.proofs.reading.chunks_of.Given as goal

abbrev pub invariant-loop : goal.invariant-loop
invariant-loop l = each_at (next_chunk_at (is_used (node_of l.held))) l.chunks.items (l.count - l.counter) l.rest ≡ each_at (next_chunk_at (is_used (node_of l.held))) [] l.count l.bytes
