use Rattle.std.proofs.Common.{arith}
use Rattle.oz_fields.specs.laws.Bytes.{AreBytes-behind}
use Rattle.oz_rows.specs.Operations.{batch_bytes}
use Rattle.oz_rows.specs.laws.Batches.{one_more, fewer_left}
use Rattle.oz_rows.proofs.whole.batch_of.Goals as goal

pub loop-rest-smaller : goal.loop-rest-smaller
loop-rest-smaller c =
    let fit = AreBytes-behind c.args.bytes.now (batch_bytes c.loop-rest.items.items) c.loop-rest.rest.now (λ k. omega (arith, c.type_inv.bytes k)) c.loop-rest.invariant.1 in
    fewer_left c.in_ok-operation.operation c.loop-rest.rest.now c.in_ok-operation.after.now fit c.in_ok-operation.ensures

pub loop-rest-preserved : goal.loop-rest-preserved
loop-rest-preserved c =
    let fit = AreBytes-behind c.args.bytes.now (batch_bytes c.loop-rest.items.items) c.loop-rest.rest.now (λ k. omega (arith, c.type_inv.bytes k)) c.loop-rest.invariant.1 in
    rw c.in_ok-push.ensures.items (one_more c.loop-rest.items.items c.in_ok-operation.operation c.args.bytes.now c.loop-rest.rest.now c.in_ok-operation.after.now fit c.in_ok-operation.ensures c.loop-rest.invariant)
