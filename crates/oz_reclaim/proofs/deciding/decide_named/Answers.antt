use Rattle.oz_reclaim.proofs.deciding.decide_named.Goals as goal

pub returns-in-CreateSnapshot-clause-reply : goal.returns-in-CreateSnapshot-clause-reply
returns-in-CreateSnapshot-clause-reply g c = rw c.in-CreateSnapshot.is c.create_snapshot.ensures.reply
