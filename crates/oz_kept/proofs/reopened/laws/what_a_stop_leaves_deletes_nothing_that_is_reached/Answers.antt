use Rattle.oz_kept.specs.reopened.laws.Reopened.{log_stays, fits_front}
use Rattle.oz_kept.specs.laws.Deleted.{front_legal}
use Rattle.std.proofs.Common.{take}
use Rattle.oz_kept.proofs.reopened.laws.what_a_stop_leaves_deletes_nothing_that_is_reached.Goals as goal

pub returns : goal.returns
returns c = λ opening bytes script story place most left given coherent legal fits is.
    log_stays opening bytes script (take place story) most left given coherent (front_legal opening story legal place) (fits_front opening bytes script story place fits) is
