use Rattle.std.proofs.Common.{◌≡◌, ◌-◌, ◌^◌, ◌<◌, ◌++◌, length, sym, ap, subst, length-append, arith}
use Rattle.oz_cache.specs.Cache.{batched_changes, epoch_after}
use Rattle.oz_cache.specs.Waiting.{Waiting, EpochsRise}
use Rattle.oz_cache.proofs.Batches.{few, rise-append, epoch_after-append, batched_changes-append}
use Rattle.oz_cache.proofs.pending.Pending.push.Goals as goal

pub unwrap-requires : goal.unwrap-requires
unwrap-requires c =
    let before = c.self.inside.tables.last_index in
    let batches = c.self.inside.batches in
    let back : EpochsRise (epoch_after before batches) c.args.batch = subst (λ (w : Waiting). EpochsRise (epoch_after w.durable.last_index w.batches) c.args.batch) (sym c.self.view_is) c.requires.rise in
    let limit : epoch_after (epoch_after before batches) c.args.batch < 2 ^ 63 = subst (λ (w : Waiting). epoch_after (epoch_after w.durable.last_index w.batches) c.args.batch < 2 ^ 63) (sym c.self.view_is) c.requires.limit in
    let count = few before (batches ++ c.args.batch) (rise-append before batches c.args.batch c.self.invariant.epochs back) in
    c.append.ensures.succeeds (omega (arith, count, epoch_after-append before batches c.args.batch, limit, length-append batches c.args.batch))

pub invariant_of-self : goal.invariant_of-self
invariant_of-self c =
    let before = c.self.inside.tables.last_index in
    let batches = c.self.inside.batches in
    let back : EpochsRise (epoch_after before batches) c.args.batch = subst (λ (w : Waiting). EpochsRise (epoch_after w.durable.last_index w.batches) c.args.batch) (sym c.self.view_is) c.requires.rise in
    let spare : c.self.inside.room - c.self.inside.count ≡ c.args.self.now.spare = ap (λ (w : Waiting). w.spare) c.self.view_is in
    let items : c.append.new.self ≡ batches ++ c.args.batch = rw c.unwrap.ensures at c.append.ensures.items in
    rw items (record {
      epochs = rise-append before batches c.args.batch c.self.invariant.epochs back;
      counted = omega (arith, c.self.invariant.counted, c.requires.changes, ap length (batched_changes-append batches c.args.batch), length-append (batched_changes batches) (batched_changes c.args.batch));
      within = omega (arith, c.self.invariant.within, c.requires.room, spare);
      reserved = c.self.invariant.reserved;
    })

pub returns-clause-rise : goal.returns-clause-rise
returns-clause-rise c =
    let before = c.self.inside.tables.last_index in
    let batches = c.self.inside.batches in
    let back : EpochsRise (epoch_after before batches) c.args.batch = subst (λ (w : Waiting). EpochsRise (epoch_after w.durable.last_index w.batches) c.args.batch) (sym c.self.view_is) c.requires.rise in
    let items : c.append.new.self ≡ batches ++ c.args.batch = rw c.unwrap.ensures at c.append.ensures.items in
    rw items (rise-append before batches c.args.batch c.self.invariant.epochs back)
