use Rattle.std.proofs.Common.{◌≡◌, ◌++◌}
use Rattle.oz_freon.specs.Script.{bucket_line, texts_below}
use Rattle.oz_freon.proofs.whole.push_buckets.Given as goal

abbrev pub invariant-loop-bucket : goal.invariant-loop-bucket
invariant-loop-bucket l = l.out.items ≡ l.fn.out.items ++ texts_below bucket_line l.bucket
