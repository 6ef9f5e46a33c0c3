use Rattle.std.proofs.Common.{List, [], subst}
use Rattle.oz_core.specs.declared.event.Event.{Event}
use Rattle.oz_headline.specs.restored.Together.{AllStood}
use Rattle.oz_headline.specs.restored.laws.Whole.{all_stood, front_stood, last_place}
use Rattle.oz_headline.proofs.restored.laws.stripes_stand_together.Goals as goal

pub returns-clause-all : goal.returns-clause-all
returns-clause-all c = λ opening bytes loaded story rows store fit legal run. all_stood opening bytes loaded store fit story rows legal run

pub returns-clause-places : goal.returns-clause-places
returns-clause-places c = λ opening loaded story front last stood begins.
    let halves = front_stood opening loaded front [] loaded begins.0 last (subst (λ (l : List Event). AllStood opening loaded l last) begins.1 stood) in
    (halves.0, halves.1, last_place opening loaded [] loaded front halves.0 halves.1)
