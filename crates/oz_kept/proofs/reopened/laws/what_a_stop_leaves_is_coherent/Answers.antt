use Rattle.oz_kept.specs.reopened.laws.Reopened.{stays_coherent, fits_front}
use Rattle.oz_kept.specs.laws.Deleted.{front_legal}
use Rattle.std.proofs.Common.{take}
use Rattle.oz_kept.proofs.reopened.laws.what_a_stop_leaves_is_coherent.Goals as goal

pub returns : goal.returns
returns c = λ opening bytes script story place most left given coherent apart legal fits is.
    stays_coherent opening bytes script (take place story) most left given coherent (front_legal opening story legal place) (fits_front opening bytes script story place fits) is apart
