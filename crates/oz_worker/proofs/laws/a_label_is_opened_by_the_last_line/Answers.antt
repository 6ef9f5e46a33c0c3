use Rattle.std.proofs.Common.{refl, sym}
use Rattle.std.proofs.lemmas.Option.{slice_get_read}
use Rattle.oz_worker.proofs.Numbered.{next_opening, no_opening}
use Rattle.oz_worker.proofs.laws.a_label_is_opened_by_the_last_line.Goals as goal

pub returns-clause-next : goal.returns-clause-next
returns-clause-next c script line next name numbered its up =
    next_opening script line next name its.there.0 numbered
    (slice_get_read script.lines _ its.there.0 line refl its.there.1 (sym its.there.2)) (sym its.of_client) up

pub returns-clause-first : goal.returns-clause-first
returns-clause-first c script line name numbered first = no_opening script line name numbered first
