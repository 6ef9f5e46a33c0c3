use Rattle.oz_kept.specs.reopened.laws.Reopened.{placed_well, fits_front}
use Rattle.oz_kept.specs.laws.Deleted.{front_legal}
use Rattle.std.proofs.Common.{take}
use Rattle.oz_kept.proofs.reopened.laws.what_a_stop_leaves_is_placed.Goals as goal

pub returns-clause-made : goal.returns-clause-made
returns-clause-made c = λ opening bytes script story place most left given block coherent legal fits is on.
    (placed_well opening bytes script (take place story) most left given coherent (front_legal opening story legal place) (fits_front opening bytes script story place fits) is).made block on

pub returns-clause-placed : goal.returns-clause-placed
returns-clause-placed c = λ opening bytes script story place most left given block dn coherent legal fits is held.
    (placed_well opening bytes script (take place story) most left given coherent (front_legal opening story legal place) (fits_front opening bytes script story place fits) is).placed block dn held
