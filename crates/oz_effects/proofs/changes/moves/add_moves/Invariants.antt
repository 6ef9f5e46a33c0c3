use Rattle.std.proofs.Common.{◌≡◌, ◌++◌, take}
use Rattle.std.specs.List.{flat_map}
use Rattle.oz_rows.specs.declared.entry.RowEntry.{RowEntry}
use Rattle.oz_effects.specs.changes.Steps.{moved_but, has}
use Rattle.oz_effects.proofs.changes.moves.add_moves.Given as goal

abbrev pub invariant-loop-entry : goal.invariant-loop-entry
invariant-loop-entry l = l.changes.items ≡ l.fn.changes.items ++ flat_map (λ (entry : RowEntry). moved_but (has l.others) l.volume l.bucket l.from l.to entry.key entry.row) (take l.entry-index l.rows)
