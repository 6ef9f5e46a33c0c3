use Rattle.std.proofs.Common.{take}
use Rattle.oz_kept.specs.laws.Deleted.{front_legal}
use Rattle.oz_kept.specs.reopened.laws.Reopened.{fits_front}
use Rattle.oz_halted.proofs.leaving_lemmas.Leaving.{leaves}
use Rattle.oz_halted.proofs.leaving.laws.every_legal_story_leaves_an_opening.Goals as goal

pub returns : goal.returns
returns c = λ opening bytes script story place most coherent legal fits within.
    leaves opening bytes script (take place story) most coherent (front_legal opening story legal place) (fits_front opening bytes script story place fits) within
