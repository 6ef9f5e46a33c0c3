use Rattle.std.proofs.Common.{◌≡◌, ◌++◌, take}
use Rattle.oz_repl.specs.repl.Listed.{copies_of_sources}
use Rattle.oz_repl.proofs.repl.copies.push_copies_from.Given as goal

abbrev pub invariant-loop-local : goal.invariant-loop-local
invariant-loop-local l = l.orders.items ≡ l.initial.orders.items ++ copies_of_sources l.view l.from (take l.local-index l.local-items)
