use Rattle.std.proofs.Common.{◌≤◌, length, inl, inr, arith}
use Rattle.oz_rows.specs.laws.OperationReads.{head_reads}
use Rattle.oz_tables.proofs.built_lemmas.Heads.{head_has_bytes}
use Rattle.oz_tables.proofs.built.body.rising_head.Goals as goal

pub returns-then-is_below-clause-fails : goal.returns-then-is_below-clause-fails
returns-then-is_below-clause-fails c =
    inr (c.in_ok-head.head, c.in_ok-head.rest.now, c.in_ok-head.ensures, inl ((omega (arith, c.from.ensures, c.from-2.ensures, c.if-is_below.ensures.below)), omega arith))

pub returns-then-not-is_below-clause-fails : goal.returns-then-not-is_below-clause-fails
returns-then-not-is_below-clause-fails c =
    let some : 1 ≤ length c.args.bytes.now = head_has_bytes c.args.bytes.now c.in_ok-head.head c.in_ok-head.rest.now c.in_ok-head.ensures in
    inr (c.in_ok-head.head, c.in_ok-head.rest.now, c.in_ok-head.ensures, inr ((omega (arith, c.from.ensures, c.from-2.ensures, c.if-is_below.ensures.not_below)), c.if-not-is_below.ensures.not_below, omega arith))

pub returns-clause-head : goal.returns-clause-head
returns-clause-head c =
    let spelled = head_reads.one_spelling c.args.bytes.now c.in_ok-head.head c.in_ok-head.rest.now (λ k. omega (arith, c.type_inv.bytes k)) c.in_ok-head.ensures in
    record { reads = c.in_ok-head.ensures; fits = spelled.0; parts = spelled.1; rises = record { layout = omega (arith, c.from.ensures, c.from-2.ensures, c.if-is_below.ensures.not_below); index = c.if-not-is_below.ensures.below } }
