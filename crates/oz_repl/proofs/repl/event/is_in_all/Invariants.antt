use Rattle.std.proofs.Common.{take}
use Rattle.std.specs.List.{All}
use Rattle.oz_repl.specs.repl.View.{HoldsWithin}
use Rattle.oz_repl.proofs.repl.event.is_in_all.Given as goal

abbrev pub invariant-loop-other : goal.invariant-loop-other
invariant-loop-other l = All (λ other. HoldsWithin l.logged l.held other) (take l.other-index l.all)
