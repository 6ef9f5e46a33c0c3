use Rattle.std.proofs.Common.{◌≡◌, ◌<◌, ◌-◌, length, rules, ◌∙◌, ap, subst, arith}
use Rattle.oz_cache.specs.declared.batch.Batch.{Batch}
use Rattle.oz_cache.specs.Cache.{epoch_after}
use Rattle.oz_cache.specs.Waiting.{Waiting}
use Rattle.oz_cache.proofs.Batches.{last_of}
use Rattle.oz_cache.proofs.pending.Pending.last_epoch.Goals as goal

pub returns-in-Some : goal.returns-in-Some
returns-in-Some c =
    let batches = c.self.inside.batches in
    let some : 0 < length batches = search rules in
    subst (λ (w : Waiting). c.in-Some.batch.now.epoch ≡ epoch_after w.durable.last_index w.batches) c.self.view_is
    (ap (λ (b : Batch). b.epoch) c.in-Some.ensures.lookup
    ∙ last_of c.self.inside.tables.last_index batches c.in-Some.batch.now (length batches - 1) (omega arith))
