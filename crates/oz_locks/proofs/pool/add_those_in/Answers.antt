use Rattle.std.proofs.Common.{arith}
use Rattle.oz_locks.proofs.Pools.{so_many_blocks}
use Rattle.oz_locks.proofs.pool.add_those_in.Goals as goal

pub add_blocks-requires : goal.add_blocks-requires
add_blocks-requires c =
    let room = c.requires in
    let many = so_many_blocks _ _ _ _ _ _ _ c.in-Grant.is c.if-stripe-of_stripe.true in
    omega (arith, room, many)

pub returns-then-stripe-of_stripe-clause-length : goal.returns-then-stripe-of_stripe-clause-length
returns-then-stripe-of_stripe-clause-length c =
    let long = c.add_blocks.ensures.length in
    let many = so_many_blocks _ _ _ _ _ _ _ c.in-Grant.is c.if-stripe-of_stripe.true in
    omega (arith, long, many)
