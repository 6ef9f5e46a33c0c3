use Rattle.oz_kept.specs.laws.Deleted.{purged_away, logged_purged, deleted_let_go, opening_away}
use Rattle.oz_kept.proofs.laws.what_is_being_deleted_is_not_reached.Goals as goal

pub returns-clause-purged : goal.returns-clause-purged
returns-clause-purged c = λ opening story block place later legal purge le reached. purged_away opening story block place later legal purge le reached

pub returns-clause-logged : goal.returns-clause-logged
returns-clause-logged c = λ opening story place seat number container local locals legal is among. logged_purged opening story place seat number container local locals legal is among

pub returns-clause-deleted : goal.returns-clause-deleted
returns-clause-deleted c = λ opening story place seat dn number local locals legal is among. deleted_let_go opening story place seat dn number local locals legal is among

pub returns-clause-at_opening : goal.returns-clause-at_opening
returns-clause-at_opening c = λ opening story block later coherent legal is reached. opening_away opening story block later coherent legal is reached
