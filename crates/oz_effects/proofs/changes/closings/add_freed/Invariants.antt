use Rattle.std.proofs.Common.{◌≡◌, ◌++◌, take}
use Rattle.std.specs.List.{flat_map}
use Rattle.oz_rows.specs.declared.entry.RowEntry.{RowEntry}
use Rattle.oz_effects.specs.changes.Steps.{freed_if, holds}
use Rattle.oz_effects.proofs.changes.closings.add_freed.Given as goal

abbrev pub invariant-loop-entry : goal.invariant-loop-entry
invariant-loop-entry l = l.changes.items ≡ l.fn.changes.items ++ flat_map (λ (entry : RowEntry). freed_if (holds l.free) l.volume l.bucket entry.key entry.row) (take l.entry-index l.sessions)
