use Rattle.std.proofs.Common.{◌<◌, [], ◌∷◌, ◌++◌, None, sym, ◌∙◌, ap, subst, arith}
use Rattle.oz_tables.specs.Tables.{TableView as Tables}
use Rattle.oz_rows.specs.RowMaps.{row_of, row_after}
use Rattle.oz_cache.specs.Cache.{CacheView, batch_of, batched_changes, epoch_after, last_epoch, newest}
use Rattle.oz_cache.specs.Linked.{AllBy}
use Rattle.oz_cache.specs.Places.{written_in, after_changes, after_batches}
use Rattle.oz_cache.proofs.Links.{by_more}
use Rattle.oz_cache.proofs.Newest.{after_batches-append, newest_entered}
use Rattle.oz_cache.proofs.Batches.{epoch_after-append}
use Rattle.oz_cache.proofs.cached.Cached.enter.Goals as goal

pub enter-requires-clause-ends : goal.enter-requires-clause-ends
enter-requires-clause-ends c =
    let pending = c.self.inside.pending in
    let last = epoch_after pending.durable.last_index pending.batches in
    let above : last < c.args.epoch = subst (λ (w : CacheView). last_epoch w < c.args.epoch) (sym c.self.view_is) c.requires.above in
    by_more last c.args.epoch (omega (arith, above)) _ c.self.invariant.ends

pub invariant_of-self : goal.invariant_of-self
invariant_of-self c =
    let batches = c.self.inside.pending.batches in
    let rows = c.self.inside.newer.rows in
    let one = batch_of c.args.epoch c.args.prepared in
    let new = c.push.new.self in
    let together = c.push.ensures.batches ∙ ap (λ batch. batches ++ batch) c.under-batch.ensures.batch in
    let last = ap (epoch_after new.durable.last_index) together ∙ epoch_after-append new.durable.last_index batches (one ∷ []) in
    record {
      last = λ key.
          c.enter.ensures.rows key
          ∙ ap (λ changes. after_changes c.args.epoch changes key (written_in rows key)) c.under-batch.ensures.copy
          ∙ ap (after_changes c.args.epoch c.args.prepared key) (c.self.invariant.last key)
          ∙ sym (ap (λ l. after_batches l key None) together ∙ after_batches-append batches (one ∷ []) key None);
      ends = subst (λ n. AllBy n c.enter.new.self.epochs) (sym last) c.enter.ensures.ends;
    }

pub returns-clause-newest : goal.returns-clause-newest
returns-clause-newest c = λ key.
    let pending = c.self.inside.pending in
    let one = batch_of c.args.epoch c.args.prepared in
    ap (λ l. row_after (batched_changes l) key (row_of c.push.new.self.durable.rows key)) (c.push.ensures.batches ∙ ap (λ batch. pending.batches ++ batch) c.under-batch.ensures.batch)
    ∙ ap (λ (t : Tables). row_after (batched_changes (pending.batches ++ one ∷ [])) key (row_of t.rows key)) c.push.ensures.durable
    ∙ newest_entered pending.batches one key (row_of pending.durable.rows key)
    ∙ ap (λ (w : CacheView). row_after c.args.prepared key (newest w key)) c.self.view_is

pub returns-clause-last : goal.returns-clause-last
returns-clause-last c =
    let pending = c.self.inside.pending in
    let new = c.push.new.self in
    ap (epoch_after new.durable.last_index) (c.push.ensures.batches ∙ ap (λ batch. pending.batches ++ batch) c.under-batch.ensures.batch)
    ∙ epoch_after-append new.durable.last_index pending.batches (batch_of c.args.epoch c.args.prepared ∷ [])
