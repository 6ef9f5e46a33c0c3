use Rattle.std.proofs.Common.{take}
use Rattle.std.specs.List.{All}
use Rattle.oz_repl.specs.repl.View.{HoldsWithin}
use Rattle.oz_repl.proofs.repl.event.hold_alike.Given as goal

abbrev pub invariant-loop-held : goal.invariant-loop-held
invariant-loop-held l = All (λ held. All (λ other. HoldsWithin l.logged held other) l.all) (take l.held-index l.all)
