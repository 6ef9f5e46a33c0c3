use Rattle.std.proofs.Common.{take}
use Rattle.oz_kept.specs.laws.Deleted.{front_legal}
use Rattle.oz_halted.proofs.Missing.{may_have_lost}
use Rattle.oz_halted.proofs.laws.only_what_is_being_deleted_may_be_missing.Goals as goal

pub returns : goal.returns
returns c = λ opening bytes script story place most left given dn block numbered legal is held gone.
    may_have_lost opening bytes script (take place story) most left given dn block numbered (front_legal opening story legal place) is held gone
