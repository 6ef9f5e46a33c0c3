use Rattle.oz_om_session.proofs.om_open_lemmas.Ended.{drop_fits}
use Rattle.oz_om_session.proofs.om_open.expiring.drop_sessions.Goals as goal

pub apply-requires : goal.apply-requires
apply-requires g c = rw (c.in_ok-try_clone.ensures, c.in_ok-try_clone-2.ensures) (drop_fits c.args.volume.now c.args.bucket.now c.requires)
