use Rattle.std.proofs.Common.{take}
use Rattle.std.specs.List.{AllByRecursion}
use Rattle.oz_model.specs.Reach.{blocks_of}
use Rattle.oz_om_key.specs.om_change.Passing.{IsInSpan}
use Rattle.oz_om_key.proofs.om_change.passing.span_of.Given as goal

abbrev pub invariant-loop-piece : goal.invariant-loop-piece
invariant-loop-piece l = AllByRecursion (IsInSpan l.span) (blocks_of (take l.piece-index l.pieces))
