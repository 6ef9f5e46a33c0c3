use Rattle.oz_names.specs.laws.NameTests.{volume_name-passes}
use Rattle.oz_om_bucket.proofs.buckets.delete_bucket.Goals as goal

pub remove-requires : goal.remove-requires
remove-requires g c = rw c.in_ok-key.ensures (volume_name-passes c.args.volume.now c.requires.volume, volume_name-passes c.args.bucket.now c.requires.bucket)
