use Rattle.std.proofs.Common.{refl}
use Rattle.oz_scm.proofs.Handing.{added, failed}
use Rattle.oz_scm.proofs.adding.add.Goals as goal

pub returns-in_default-clause-appended : goal.returns-in_default-clause-appended
returns-in_default-clause-appended g c = failed _ _ _ _ c.in_default.field-0 _ refl c.in_default.ensures.appended

pub returns-clause-appended : goal.returns-clause-appended
returns-clause-appended g c = added _ _ _ _ c.in-Ok._moment _ refl c.in-Ok.ensures.appended
