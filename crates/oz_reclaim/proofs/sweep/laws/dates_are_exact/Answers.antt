use Rattle.oz_reclaim.proofs.sweep_lemmas.Exact.{exact_now}
use Rattle.oz_reclaim.proofs.sweep.laws.dates_are_exact.Goals as goal

pub returns : goal.returns
returns c = λ rows base from upto old now low high goes begun dated exact swept so.
    exact_now rows base from upto old low high goes begun dated exact now swept so
