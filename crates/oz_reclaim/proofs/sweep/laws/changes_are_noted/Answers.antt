use Rattle.oz_reclaim.proofs.sweep_lemmas.Changes.{noted_changes}
use Rattle.oz_reclaim.proofs.sweep.laws.changes_are_noted.Goals as goal

pub returns : goal.returns
returns c = λ changes before stay. noted_changes changes before stay
