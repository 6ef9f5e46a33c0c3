use Rattle.oz_asker.specs.telling.laws.Told.{started_later}
use Rattle.oz_asker.proofs.telling.laws.what_started_stays.Goals as goal

pub returns : goal.returns
returns c story later line begins started = started_later story later line begins started
