use Rattle.std.proofs.Common.{arith, ◌-◌, length}
use Rattle.oz_reclaim.proofs.Removing.{all_below}
use Rattle.oz_reclaim.proofs.purging.is_behind.Goals as goal

pub returns-in_default : goal.returns-in_default
returns-in_default c = λ yes.
    all_below c.args.keys.now (length c.args.keys.now - 1) c.index-keys-count.result c.args.key.now (omega arith) c.index-keys-count.is c.requires (c.is_below.ensures.0 yes)
