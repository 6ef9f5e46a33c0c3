use Rattle.std.proofs.Common.{drop, sym, ◌∙◌, ap, rules, arith}
use Rattle.oz_rows.specs.RowMaps.{row_of, row_after}
use Rattle.oz_cache.specs.Cache.{batched_changes, epoch_after, up_to, later}
use Rattle.oz_cache.proofs.Batches.{takes_first, all_later, first_rows, first_epoch}
use Rattle.oz_cache.proofs.pending.Pending.move_down.Goals as goal

pub loop-self-preserved : goal.loop-self-preserved
loop-self-preserved c =
    let old = c.loop-self.self in
    let new = c.move_first.new.self in
    let rest = up_to c.args.epoch (drop 1 old.batches) in
    let first = takes_first c.args.epoch old.batches (sym c.starts_by.ensures.starts ∙ c.loop-self-test.true) in
    record {
      rows = λ key.
          ap (λ batches. row_after (batched_changes (up_to c.args.epoch batches)) key (row_of new.durable.rows key)) c.move_first.ensures.batches
          ∙ ap (λ row. row_after (batched_changes rest) key row) (c.move_first.ensures.rows key)
          ∙ first_rows c.args.epoch old.batches first key _
          ∙ c.loop-self.invariant.rows key;
      last_index =
          ap (λ batches. epoch_after new.durable.last_index (up_to c.args.epoch batches)) c.move_first.ensures.batches
          ∙ ap (λ before. epoch_after before rest) c.move_first.ensures.last_index
          ∙ first_epoch c.args.epoch old.batches first _
          ∙ c.loop-self.invariant.last_index;
      later = ap (later c.args.epoch) c.move_first.ensures.batches ∙ sym first.rest ∙ c.loop-self.invariant.later;
      spare = omega arith;
    }

pub returns : goal.returns
returns c =
    let self = c.loop-self.self in
    let all = all_later c.args.epoch self.durable.last_index self.batches c.starts_by.ensures.rise (sym c.starts_by.ensures.starts ∙ c.loop-self-test.false) in
    record {
      rows = λ key.
          sym (ap (λ batches. row_after (batched_changes batches) key (row_of self.durable.rows key)) all.front)
          ∙ c.loop-self.invariant.rows key;
      last_index = sym (ap (epoch_after self.durable.last_index) all.front) ∙ c.loop-self.invariant.last_index;
      batches = sym all.rest ∙ c.loop-self.invariant.later;
      spare = c.loop-self.invariant.spare;
      rise = search rules;
    }
