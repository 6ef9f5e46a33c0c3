use Rattle.std.proofs.Common.{sym, ap, ◌∙◌}
use Rattle.std.specs.FinMap.{entries}
use Rattle.oz_dellog.proofs.Rising.{has_entries}
use Rattle.oz_dellog.proofs.log.DelLog.unretired.Goals as goal

pub returns-clause-rest : goal.returns-clause-rest
returns-clause-rest c =
    c.iter.ensures.rest ∙ sym (has_entries c.self.inside.unretired.entries c.self.invariant.ordered) ∙ ap (λ log. entries log.unretired) c.self.view_is
