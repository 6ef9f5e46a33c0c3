use Rattle.std.proofs.Common.{take}
use Rattle.oz_repl.specs.repl.View.{HoldsWithin}
use Rattle.oz_repl.proofs.repl.event.is_within.Given as goal

abbrev pub invariant-loop-local : goal.invariant-loop-local
invariant-loop-local l = HoldsWithin l.logged (take l.local-index l.held) l.other
