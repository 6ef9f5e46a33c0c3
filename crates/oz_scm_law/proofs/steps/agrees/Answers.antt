use Rattle.std.proofs.Common.{rules}
use Rattle.oz_scm_law.proofs.steps.agrees.Goals as goal

pub returns-then-is_closed : goal.returns-then-is_closed
returns-then-is_closed c = (λ h. record { up = search rules; closed = search rules; alike = c.are_alike.ensures.0 h }, λ is. c.are_alike.ensures.1 is.alike)
