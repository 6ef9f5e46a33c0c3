use Rattle.oz_datanode.proofs.Hashing.{HashedTo}
use Rattle.oz_datanode.proofs.hashed.Hashed.new.Given as goal

abbrev pub invariant-loop-place : goal.invariant-loop-place
invariant-loop-place l = HashedTo l.place l.digests l.bytes
