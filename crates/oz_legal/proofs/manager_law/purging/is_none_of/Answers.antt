use Rattle.oz_legal.proofs.manager_law.purging.is_none_of.Goals as goal

pub returns : goal.returns
returns c = (λ h. record { away = c.is_away.ensures.0 h }, λ is. c.is_away.ensures.1 is.away)
