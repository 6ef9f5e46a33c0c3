use Rattle.std.proofs.Common.{None, refl, sym, ◌∙◌, ap, subst}
use Rattle.oz_rows.specs.RowMaps.{row_of, row_after}
use Rattle.oz_cache.specs.Cache.{CacheView, batched_changes, newest, epoch_after, last_epoch, later}
use Rattle.oz_cache.specs.Linked.{AllBy}
use Rattle.oz_cache.specs.Places.{after_batches, if_later}
use Rattle.oz_cache.proofs.Newest.{kept_rows, newest_stays, last_stays}
use Rattle.oz_cache.proofs.cached.Cached.flushed.Goals as goal

pub invariant_of-self : goal.invariant_of-self
invariant_of-self g c =
    let pending = c.self.inside.pending in
    let new = c.move_down.new.self in
    let last =
    ap (epoch_after new.durable.last_index) c.move_down.ensures.batches
    ∙ ap (λ before. epoch_after before (later c.args.epoch pending.batches)) c.move_down.ensures.last_index
    ∙ last_stays c.args.epoch pending.durable.last_index pending.batches c.move_down.ensures.rise in
    record {
      last = λ key.
          c.keep_after.ensures.rows key
          ∙ ap (if_later c.args.epoch) (c.self.invariant.last key)
          ∙ kept_rows c.args.epoch key pending.durable.last_index pending.batches c.move_down.ensures.rise None refl
          ∙ sym (ap (λ batches. after_batches batches key None) c.move_down.ensures.batches);
      ends = subst (λ n. AllBy n c.keep_after.new.self.epochs) (sym last) (c.keep_after.ensures.ends _ c.self.invariant.ends);
    }

pub returns-clause-newest : goal.returns-clause-newest
returns-clause-newest g c = λ key.
    let pending = c.self.inside.pending in
    let new = c.move_down.new.self in
    ap (λ batches. row_after (batched_changes batches) key (row_of new.durable.rows key)) c.move_down.ensures.batches
    ∙ ap (row_after (batched_changes (later c.args.epoch pending.batches)) key) (c.move_down.ensures.rows key)
    ∙ newest_stays c.args.epoch pending.durable.last_index pending.batches c.move_down.ensures.rise key (row_of pending.durable.rows key)
    ∙ ap (λ (w : CacheView). newest w key) c.self.view_is

pub returns-clause-last : goal.returns-clause-last
returns-clause-last g c =
    let pending = c.self.inside.pending in
    ap (epoch_after c.move_down.new.self.durable.last_index) c.move_down.ensures.batches
    ∙ ap (λ before. epoch_after before (later c.args.epoch pending.batches)) c.move_down.ensures.last_index
    ∙ last_stays c.args.epoch pending.durable.last_index pending.batches c.move_down.ensures.rise
    ∙ ap (λ (w : CacheView). last_epoch w) c.self.view_is
