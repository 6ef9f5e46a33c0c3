use Rattle.std.proofs.Common.{◌≡◌, ◌++◌, take}
use Rattle.oz_entries.specs.Entries.{chunks_bytes}
use Rattle.oz_entries.proofs.encoding.put_chunks.Given as goal

abbrev pub invariant-loop-chunk : goal.invariant-loop-chunk
invariant-loop-chunk l = l.out.items ≡ l.fn.out.items ++ chunks_bytes (take l.chunk-index l.chunks)
