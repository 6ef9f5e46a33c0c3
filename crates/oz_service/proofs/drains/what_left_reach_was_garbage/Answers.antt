use Rattle.oz_service.specs.laws.Since.{garbage_by_since, logged_left, logged_was_garbage, still_by_since}
use Rattle.oz_service.proofs.drains.what_left_reach_was_garbage.Goals as goal

pub returns-clause-held : goal.returns-clause-held
returns-clause-held c = λ opening start behind dn block since legal it left. still_by_since opening start behind dn block since legal it left

pub returns-clause-used : goal.returns-clause-used
returns-clause-used c = λ opening start behind block since legal left used. garbage_by_since opening start behind legal block since left used

pub returns-clause-logged : goal.returns-clause-logged
returns-clause-logged c = λ opening story block log legal is. logged_was_garbage opening story block log legal is

pub returns-clause-since : goal.returns-clause-since
returns-clause-since c = λ opening story block log legal is. logged_left opening story block log legal is
