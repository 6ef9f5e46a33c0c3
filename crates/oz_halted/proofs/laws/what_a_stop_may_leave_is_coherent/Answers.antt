use Rattle.std.proofs.Common.{take}
use Rattle.oz_kept.specs.laws.Deleted.{front_legal}
use Rattle.oz_kept.specs.reopened.laws.Reopened.{fits_front}
use Rattle.oz_halted.proofs.Reopening.{may_reopen}
use Rattle.oz_halted.proofs.laws.what_a_stop_may_leave_is_coherent.Goals as goal

pub returns : goal.returns
returns c = λ opening bytes script story place most left given coherent apart legal fits is.
    may_reopen opening bytes script (take place story) most left given coherent apart (front_legal opening story legal place) (fits_front opening bytes script story place fits) is
