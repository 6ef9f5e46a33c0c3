use Rattle.std.proofs.Common.{◌≡◌, ◌++◌, drop}
use Rattle.oz_datanode.specs.Unverified.{joined}
use Rattle.oz_datanode.proofs.unverified.join.Given as goal

-- what comes behind makes the bytes of all
abbrev pub invariant-loop-chunk : goal.invariant-loop-chunk
invariant-loop-chunk l = l.bytes.items ++ joined (drop l.chunk-index l.chunks) ≡ joined l.chunks
