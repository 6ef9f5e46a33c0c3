use Rattle.oz_service.specs.laws.Watched.{up_hold_old}
use Rattle.oz_service.proofs.drains.what_is_up_holds_old_blocks_alone.Goals as goal

pub returns : goal.returns
returns c = λ opening bytes story dn block legal coherent ordered acknowledged up it. up_hold_old opening bytes story legal coherent ordered
    acknowledged dn block up it
