use Rattle.oz_om_session.proofs.allocating.allocate_named.Goals as goal

pub returns-clause-reply : goal.returns-clause-reply
returns-clause-reply g c = rw c.in-AllocateBlock.is c.allocate.ensures.reply
