use Rattle.oz_entries.specs.Node.{names_some}
use Rattle.oz_entries.proofs.SlotLists.{Lists}
use Rattle.oz_entries.proofs.users.slots_of.Given as goal

abbrev pub invariant-loop-slot : goal.invariant-loop-slot
invariant-loop-slot l = Lists (names_some l.container l.locals) l.users l.slots.items l.slot
