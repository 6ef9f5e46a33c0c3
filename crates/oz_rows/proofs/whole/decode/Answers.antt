use Rattle.std.proofs.Common.{sym, ◌∙◌, length, arith}
use Rattle.std.proofs.lemmas.Bool.{eqb-true, eq-eqb, true≢false}
use Rattle.oz_rows.proofs.WholeRows.{row_fault, no_row_fails, row_found, row_is}
use Rattle.oz_rows.proofs.whole.decode.Goals as goal

pub returns-in-Err-clause-only : goal.returns-in-Err-clause-only
returns-in-Err-clause-only c = λ key row is. c.offset_of.ensures ∙ no_row_fails c.args.bytes.now c.in-Err.fault c.in-Err.ensures key row is

pub returns-in-Err-clause-fault : goal.returns-in-Err-clause-fault
returns-in-Err-clause-fault c = rw c.offset_of.ensures (row_fault c.args.bytes.now c.in-Err.fault c.in-Err.ensures)

pub returns-then-not-is_empty-clause-only : goal.returns-then-not-is_empty-clause-only
returns-then-not-is_empty-clause-only c = λ key row is.
    let over = (row_is c.args.bytes.now c.in-Ok.found.0 c.in-Ok.found.1.now c.in-Ok.ensures key row is).1 in
    let empty = eq-eqb (length c.in-Ok.found.1.now) 0 over in
    absurd (true≢false (sym empty ∙ sym c.is_empty.ensures ∙ c.if-not-is_empty.true))

pub returns-clause-found : goal.returns-clause-found
returns-clause-found c =
    row_found c.args.bytes.now c.in-Ok.found.0 c.in-Ok.found.1.now (λ k. omega (arith, c.type_inv.bytes k)) c.in-Ok.ensures (eqb-true (length c.in-Ok.found.1.now) 0 (sym c.is_empty.ensures ∙ c.if-not-is_empty.false))

pub returns-clause-only : goal.returns-clause-only
returns-clause-only c = λ key row is. (row_is c.args.bytes.now c.in-Ok.found.0 c.in-Ok.found.1.now c.in-Ok.ensures key row is).0
