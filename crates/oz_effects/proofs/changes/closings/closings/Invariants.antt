use Rattle.std.proofs.Common.{◌≡◌, take}
use Rattle.std.specs.List.{flat_map}
use Rattle.oz_rows.specs.declared.entry.RowEntry.{RowEntry}
use Rattle.oz_effects.specs.Effects.{closed}
use Rattle.oz_effects.proofs.changes.closings.closings.Given as goal

abbrev pub invariant-loop-entry : goal.invariant-loop-entry
invariant-loop-entry l = l.changes.items ≡ flat_map (λ (entry : RowEntry). closed l.volume l.bucket entry.key) (take l.entry-index l.sessions)
