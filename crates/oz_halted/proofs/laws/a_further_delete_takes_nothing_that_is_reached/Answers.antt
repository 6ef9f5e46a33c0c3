use Rattle.std.proofs.Common.{take}
use Rattle.oz_kept.specs.laws.Deleted.{front_legal}
use Rattle.oz_halted.proofs.Deleting.{delete_takes}
use Rattle.oz_halted.proofs.laws.a_further_delete_takes_nothing_that_is_reached.Goals as goal

pub returns : goal.returns
returns c = λ opening bytes script story place most left given dn number local locals longer more coherent legal is delete among.
    delete_takes opening bytes script (take place story) most left given coherent (front_legal opening story legal place) is dn number local locals longer more delete among
