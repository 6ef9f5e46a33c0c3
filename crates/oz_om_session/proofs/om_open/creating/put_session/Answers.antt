use Rattle.oz_om_session.proofs.om_open_lemmas.Opening.{session_fits}
use Rattle.oz_om_session.proofs.om_open.creating.put_session.Goals as goal

pub put-requires : goal.put-requires
put-requires c = rw (c.in_ok-of_session.ensures, c.new-blocks.ensures) (session_fits c.args.volume.now c.args.bucket.now c.args.key.now c.args.number c.requires.named c.requires.least c.requires.few)
