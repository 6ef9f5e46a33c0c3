use Rattle.oz_om_session.proofs.om_open.deciding.open_named.Goals as goal

pub returns-in-CreateKey-clause-reply : goal.returns-in-CreateKey-clause-reply
returns-in-CreateKey-clause-reply g c = rw c.in-CreateKey.is c.create_key.ensures.reply
