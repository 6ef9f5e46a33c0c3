use Rattle.std.proofs.Common.{ap, ◌∙◌}
use Rattle.oz_journal.specs.Journal.{body_of}
use Rattle.oz_scm.proofs.Handing.{added, failed}
use Rattle.oz_scm.proofs.beginning.found_or_first.Goals as goal

pub returns-in-Ok-add-clause-first : goal.returns-in-Ok-add-clause-first
returns-in-Ok-add-clause-first g c none some = added _ _ _ _ c.in-Ok-add.field-0 _ (ap body_of c.deref_mut.ensures.value ∙ c.in-Ok.ensures.body) c.in-Ok-add.ensures.appended

pub returns-clause-first : goal.returns-clause-first
returns-clause-first g c none some = failed _ _ _ _ c.in-Err.field-0 _ (ap body_of c.deref_mut.ensures.value ∙ c.in-Ok.ensures.body) c.in-Err.ensures.appended
