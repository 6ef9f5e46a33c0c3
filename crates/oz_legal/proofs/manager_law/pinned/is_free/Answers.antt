use Rattle.oz_legal.proofs.manager_law.pinned.is_free.Goals as goal

pub returns : goal.returns
returns c = (λ h. record { away = c.is_unpinned.ensures.0 h }, λ is. c.is_unpinned.ensures.1 is.away)
