use Rattle.std.proofs.lemmas.Result.{err_from_is_err_and}
use Rattle.oz_rows.specs.Reading.{with_front, items_at, block_at}
use Rattle.oz_rows.proofs.Loop.{one_more, stops, is_done}
use Rattle.oz_rows.proofs.decoding.more_blocks.Goals as goal

pub returns-in_err-block : goal.returns-in_err-block
returns-in_err-block c =
    let p = err_from_is_err_and c.from_residual.result c.from_residual.ensures.1 in
    rw (p.1, p.2) (stops block_at c.in_err-block.field-0.0 c.loop.gathered.items c.args.count c.loop.counter c.loop.rest.now (with_front c.args.before.items (items_at block_at c.args.count) c.args.bytes.now) c.loop-test.true c.in_err-block.ensures c.loop.invariant)

pub loop-preserved : goal.loop-preserved
loop-preserved c =
    rw c.in_ok-push.ensures.items (one_more block_at c.loop.gathered.items c.args.count c.loop.counter c.loop.rest.now c.in_ok-block.block c.in_ok-block.after.now (with_front c.args.before.items (items_at block_at c.args.count) c.args.bytes.now) c.loop-test.true c.in_ok-block.ensures c.loop.invariant)

pub returns : goal.returns
returns c = is_done block_at c.loop.gathered.items c.args.count c.loop.counter c.loop.rest.now (with_front c.args.before.items (items_at block_at c.args.count) c.args.bytes.now) c.loop-test.false c.loop.invariant
