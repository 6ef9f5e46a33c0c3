use Rattle.std.proofs.Common.{◌∙◌}
use Rattle.oz_model.specs.Buckets.{bucket_at}
use Rattle.oz_om.proofs.Tallied.{just_one}
use Rattle.oz_om.proofs.tally.bucket_tally.Goals as goal

pub returns : goal.returns
returns g c = λ namespace stand.
    just_one (bucket_at namespace c.args.volume.now c.args.bucket.now) _ _ _ (c.from.ensures ∙ c.in_ok-keys.ensures.shows namespace stand)
    (c.in_ok-bytes.ensures namespace stand) (c.from-2.ensures ∙ c.in_ok-snapshots.ensures.shows namespace stand)
