use Rattle.std.proofs.Common.{◌≡◌, take}
use Rattle.oz_loaded.specs.standing.Made.{filled, session_shown}
use Rattle.oz_loaded.proofs.standing.entries.sessions_of.Given as goal

abbrev pub invariant-loop-entry : goal.invariant-loop-entry
invariant-loop-entry l = l.made ≡ filled session_shown (take l.entry-index l.rows)
