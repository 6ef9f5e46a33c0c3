use Rattle.oz_decision.specs.laws.Walks.{last_is}
use Rattle.oz_decision.proofs.walking.last_or.Goals as goal

pub returns-in-len1-up : goal.returns-in-len1-up
returns-in-len1-up c = last_is c.args.before.now c.last-item.result c.args.keys.now c.in-len1-up.len_at_least c.last-item.is
