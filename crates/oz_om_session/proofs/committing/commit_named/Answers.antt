use Rattle.oz_om_session.proofs.committing.commit_named.Goals as goal

pub returns-clause-reply : goal.returns-clause-reply
returns-clause-reply g c = rw c.in-CommitKey.is c.commit.ensures.reply
