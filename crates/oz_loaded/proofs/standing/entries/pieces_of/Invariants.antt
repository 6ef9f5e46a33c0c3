use Rattle.std.proofs.Common.{◌≡◌, take}
use Rattle.oz_loaded.specs.standing.Made.{filled, pieces_shown}
use Rattle.oz_loaded.proofs.standing.entries.pieces_of.Given as goal

abbrev pub invariant-loop-entry : goal.invariant-loop-entry
invariant-loop-entry l = l.made ≡ filled (pieces_shown l.snapshot) (take l.entry-index l.rows)
