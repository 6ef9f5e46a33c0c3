use Rattle.oz_service.specs.laws.Emptied.{empty_are_deleted}
use Rattle.oz_service.proofs.drains.empty_containers_are_deleted.Goals as goal

pub returns : goal.returns
returns c = λ opening story start line legal is done. empty_are_deleted opening story start line legal is done
