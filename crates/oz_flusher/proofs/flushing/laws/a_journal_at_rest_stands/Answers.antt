use Rattle.oz_flusher.proofs.flushing_lemmas.Kept.{at_rest}
use Rattle.oz_flusher.proofs.flushing.laws.a_journal_at_rest_stands.Goals as goal

pub returns : goal.returns
returns g c disk bytes bodies is stable = at_rest bytes bodies _ _ is stable
