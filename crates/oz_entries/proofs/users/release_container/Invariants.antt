use Rattle.oz_entries.specs.Node.{is_in}
use Rattle.oz_entries.proofs.SlotUsers.{Cleans}
use Rattle.oz_entries.proofs.users.release_container.Given as goal

abbrev pub invariant-loop-slot : goal.invariant-loop-slot
invariant-loop-slot l = Cleans (is_in l.container) l.fn.users.items l.users.items l.slot
