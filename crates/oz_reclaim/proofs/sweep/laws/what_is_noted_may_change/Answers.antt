use Rattle.oz_reclaim.specs.sweep.Notes.{up_to}
use Rattle.oz_reclaim.proofs.sweep_lemmas.Changes.{less_but, swept_on}
use Rattle.oz_reclaim.proofs.sweep.laws.what_is_noted_may_change.Goals as goal

pub returns : goal.returns
returns c = λ sweep upto later before now le differ swept.
    swept_on (up_to later sweep.noted) before now differ sweep (less_but before sweep sweep.noted upto later le swept)
