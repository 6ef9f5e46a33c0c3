use Rattle.oz_service.specs.laws.Drained.{what_is_drained}
use Rattle.oz_service.proofs.drains.what_is_drained.Goals as goal

pub returns : goal.returns
returns c = λ opening bytes loaded story start line legal store ordered is swept away settled none. what_is_drained opening bytes loaded story
    start line legal store ordered is swept away settled none
