use Rattle.oz_repl.specs.views.laws.Still.{close_done_still, closed_still, counted_still, empty_are_deleted_still, stands_still}
use Rattle.oz_repl.proofs.views.laws.closed_still.Goals as goal

pub returns-clause-closed : goal.returns-clause-closed
returns-clause-closed c = λ opening place behind line legal gave. closed_still opening place behind (stands_still opening place behind legal gave) line

pub returns-clause-close_done : goal.returns-clause-close_done
returns-clause-close_done c = λ opening place behind line it legal gave. close_done_still opening place behind
    (stands_still opening place behind legal gave) line it

pub returns-clause-counted : goal.returns-clause-counted
returns-clause-counted c = λ opening place behind line it legal gave. counted_still opening place behind (stands_still opening place behind legal gave) line it

pub returns-clause-deleted : goal.returns-clause-deleted
returns-clause-deleted c = λ opening place behind line legal gave. empty_are_deleted_still opening place behind
    (stands_still opening place behind legal gave) line
