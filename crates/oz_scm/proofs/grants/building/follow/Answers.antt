use Rattle.std.proofs.Common.{Result, subst}
use Rattle.oz_scm.specs.declared.grants.entry.Entry.{Entry}
use Rattle.oz_scm.specs.declared.grants.fault.BuildFault.{BuildFault}
use Rattle.oz_scm.specs.grants.Build.{body_at}
use Rattle.oz_scm.specs.grants.Steps.{IsWhole, made_in}
use Rattle.oz_scm.specs.grants.laws.Journals.{body_follows}
use Rattle.oz_scm.proofs.grants.building.follow.Goals as goal

pub apply-requires : goal.apply-requires
apply-requires c = body_follows (made_in c.args.found) c.args.bytes.now c.in-Ok.entry (subst (λ (result : Result Entry BuildFault). IsWhole c.args.count result (body_at (made_in c.args.found) c.args.bytes.now)) c.in-Ok.is c.whole_entry.ensures)
