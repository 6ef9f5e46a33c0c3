use Rattle.std.proofs.Common.{◌≡◌, false}
use Rattle.oz_entries.specs.Held.{user_of}
use Rattle.oz_entries.specs.Node.{uses_below}
use Rattle.oz_entries.proofs.users.uses_one.Given as goal

abbrev pub invariant-loop-slot : goal.invariant-loop-slot
invariant-loop-slot l = uses_below (user_of l.users) l.container l.slot ≡ false
