use Rattle.std.proofs.Common.{◌∙◌, arith}
use Rattle.oz_rows.specs.laws.Bodies.{head_fault, no_head_fails, batch_fault, no_operation_fails, body_found, body_is}
use Rattle.oz_rows.proofs.whole.operations.Goals as goal

pub returns-in-Err-clause-only : goal.returns-in-Err-clause-only
returns-in-Err-clause-only c = λ other is. c.offset_of.ensures ∙ no_head_fails c.args.body.now c.in-Err.fault c.in-Err.ensures other is

pub returns-in-Err-clause-fault : goal.returns-in-Err-clause-fault
returns-in-Err-clause-fault c = rw c.offset_of.ensures (head_fault c.args.body.now c.in-Err.fault c.in-Err.ensures)

pub returns-in-Ok-batch_of-clause-found : goal.returns-in-Ok-batch_of-clause-found
returns-in-Ok-batch_of-clause-found c =
    rw c.of.ensures (body_found c.args.body.now c.in-Ok.found.0 c.in-Ok.found.1.now c.in-Ok-batch_of.items.items (λ k. omega (arith, c.type_inv.body k)) c.in-Ok.ensures c.in-Ok-batch_of.ensures)

pub returns-in-Ok-batch_of-clause-only : goal.returns-in-Ok-batch_of-clause-only
returns-in-Ok-batch_of-clause-only c = λ other is.
    rw c.of.ensures (body_is c.args.body.now c.in-Ok.found.0 c.in-Ok.found.1.now c.in-Ok-batch_of.items.items c.in-Ok.ensures c.in-Ok-batch_of.ensures other is)

pub returns-in-Err-batch_of-clause-only : goal.returns-in-Err-batch_of-clause-only
returns-in-Err-batch_of-clause-only c = λ other is.
    c.offset_of-in-Err-batch_of.ensures ∙ no_operation_fails c.args.body.now c.in-Ok.found.0 c.in-Ok.found.1.now c.in-Err-batch_of.fault c.in-Ok.ensures c.in-Err-batch_of.ensures other is

pub returns-in-Err-batch_of-clause-fault : goal.returns-in-Err-batch_of-clause-fault
returns-in-Err-batch_of-clause-fault c =
    rw c.offset_of-in-Err-batch_of.ensures (batch_fault c.args.body.now c.in-Ok.found.0 c.in-Ok.found.1.now c.in-Err-batch_of.fault (λ k. omega (arith, c.type_inv.body k)) c.in-Ok.ensures c.in-Err-batch_of.ensures)
