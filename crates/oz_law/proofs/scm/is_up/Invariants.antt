use Rattle.std.proofs.Common.{◌≡◌, take}
use Rattle.oz_core.specs.Scm.{is_up}
use Rattle.oz_law.proofs.scm.is_up.Given as goal

abbrev pub invariant-loop-event : goal.invariant-loop-event
invariant-loop-event l = l.up ≡ is_up l.dn (take l.event-index l.story)
