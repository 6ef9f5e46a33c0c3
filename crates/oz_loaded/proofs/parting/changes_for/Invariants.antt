use Rattle.std.proofs.Common.{◌≡◌, take}
use Rattle.oz_sound.specs.stripes.Parts.{part_of}
use Rattle.oz_sound.specs.stripes.Stripes.{is_own}
use Rattle.oz_loaded.specs.Walks.{puts_of}
use Rattle.oz_loaded.proofs.parting.changes_for.Given as goal

abbrev pub invariant-loop-entry : goal.invariant-loop-entry
invariant-loop-entry l = l.changes.items ≡ puts_of (part_of (is_own l.stripe) (take l.entry-index l.rows))
