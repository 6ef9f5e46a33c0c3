use Rattle.std.proofs.Common.{◌≡◌, map, take}
use Rattle.oz_model.specs.Buckets.{bucket_at}
use Rattle.oz_namespace.specs.declared.namespace.Namespace.{Namespace}
use Rattle.oz_decision.specs.Meets.{Stand}
use Rattle.oz_sound.specs.Sound.{IsSoundButRenames}
use Rattle.oz_om.specs.Tallies.{tally_in}
use Rattle.oz_om.proofs.tally.tally_of_buckets.Given as goal

-- what the buckets have that were looked at
abbrev pub invariant-loop-bucket : goal.invariant-loop-bucket
invariant-loop-bucket g l = (namespace : Namespace) → Stand IsSoundButRenames (g.M.RowMap.rows l.rows) namespace
    → l.tally ≡ tally_in (map (bucket_at namespace l.volume) (take l.bucket-index l.names))
