use Rattle.std.proofs.Common.{ℕ, List, ◌++◌, ◌∙◌, ap}
use Rattle.oz_freon.specs.Script.{bucket_line}
use Rattle.oz_freon.proofs.Loops.{text_grows}
use Rattle.oz_freon.proofs.whole.push_buckets.Goals as goal

pub loop-bucket-preserved : goal.loop-bucket-preserved
loop-bucket-preserved c =
    c.in_ok-push_bucket.ensures
    ∙ (ap (λ (l : List ℕ). l ++ bucket_line c.loop-bucket.bucket) c.loop-bucket.invariant
    ∙ text_grows bucket_line c.args.out.now.items c.loop-bucket.bucket)
