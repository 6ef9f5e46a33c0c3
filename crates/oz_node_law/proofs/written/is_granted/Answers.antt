use Rattle.std.proofs.Common.{take, refl}
use Rattle.oz_node_law.proofs.Found.{false-true}
use Rattle.oz_node_law.proofs.written.is_granted.Goals as goal

pub returns-in-None : goal.returns-in-None
returns-in-None c = (λ h. false-true h, λ is. absurd (c.in-None.ensures is.0 is.1))

pub returns-in-Some : goal.returns-in-Some
returns-in-Some c = (λ h. (take c.in-Some.field-0 c.args.story.now, c.in-Some.ensures.1), λ is. refl)
