use Rattle.std.proofs.Common.{◌≡◌, take, map}
use Rattle.oz_decision.specs.Walking.{bucket_named}
use Rattle.oz_decision.proofs.walking.buckets_named.Given as goal

abbrev pub invariant-loop-key : goal.invariant-loop-key
invariant-loop-key l = l.names.items ≡ map bucket_named (take l.key-index l.keys)
