use Rattle.std.proofs.Common.{None, ◌∙◌, ap}
use Rattle.oz_cache.specs.Cache.{one_or_none}
use Rattle.oz_cache.specs.Places.{found}
use Rattle.oz_cache.proofs.Links.{epochs_of_row}
use Rattle.oz_cache.proofs.Newest.{epoch_in, epochs_after}
use Rattle.oz_cache.proofs.cached.Cached.epochs.Goals as goal

pub returns-clause-each : goal.returns-clause-each
returns-clause-each c = λ key.
    let newer = c.self.inside.newer in
    let batches = c.self.inside.pending.batches in
    rw (← c.self.view_is)
    (epochs_of_row key newer.epochs (found newer.rows key) (c.epochs.ensures.linked key)
    ∙ ap (λ o. one_or_none (epoch_in o)) (c.self.invariant.last key)
    ∙ ap one_or_none (epochs_after key batches None))
