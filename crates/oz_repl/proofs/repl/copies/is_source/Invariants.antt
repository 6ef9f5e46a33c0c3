use Rattle.std.proofs.Common.{◌≡◌, false}
use Rattle.std.specs.List.{list_any, range_with_len}
use Rattle.oz_repl.specs.repl.Listed.{is_holder_at}
use Rattle.oz_repl.proofs.repl.copies.is_source.Given as goal

abbrev pub invariant-loop-place : goal.invariant-loop-place
invariant-loop-place l = list_any (is_holder_at l.view l.local) (range_with_len 0 l.place) ≡ false
