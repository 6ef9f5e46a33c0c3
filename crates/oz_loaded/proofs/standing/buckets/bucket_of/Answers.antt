use Rattle.oz_loaded.specs.standing.Made.{bucket_made}
use Rattle.oz_loaded.proofs.standing.buckets.bucket_of.Goals as goal

pub returns : goal.returns
unfolding bucket_made
returns c = λ i. record { keys = c.in_ok-keys_in.ensures i; sessions = c.in_ok-sessions_in.ensures i; snapshots = c.in_ok-snapshots_in.ensures i }
