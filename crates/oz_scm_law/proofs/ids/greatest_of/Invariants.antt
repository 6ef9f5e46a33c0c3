use Rattle.std.proofs.Common.{◌≡◌, take}
use Rattle.std.specs.Prelude.{fold, max}
use Rattle.oz_scm_law.proofs.ids.greatest_of.Given as goal

abbrev pub invariant-loop-number : goal.invariant-loop-number
invariant-loop-number l = l.greatest ≡ fold max 0 (take l.number-index l.numbers)
