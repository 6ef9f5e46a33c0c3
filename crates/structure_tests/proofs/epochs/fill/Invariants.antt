use Rattle.oz_epochs.specs.Epochs.{EndsBy}
use Rattle.structure_tests.proofs.epochs.fill.Given as goal

-- no entry is of a later epoch
abbrev pub invariant-loop-number : goal.invariant-loop-number
invariant-loop-number l = EndsBy 7 l.list.entries
