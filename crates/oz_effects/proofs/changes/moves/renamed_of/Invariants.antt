use Rattle.std.proofs.Common.{◌≡◌, ℕ, take}
use Rattle.std.specs.List.{list_any}
use Rattle.oz_rows.specs.declared.entry.RowEntry.{RowEntry}
use Rattle.oz_rows.specs.declared.key.RowKey.TheVariants as keys
use Rattle.oz_rows.specs.RowMaps.{is_same}
use Rattle.oz_effects.specs.changes.Steps.{has}
use Rattle.oz_effects.proofs.changes.moves.renamed_of.Given as goal

abbrev pub invariant-loop-entry : goal.invariant-loop-entry
invariant-loop-entry l = (local : ℕ) → has l.numbers local ≡ list_any (λ (entry : RowEntry). is_same entry.key (keys.Renamed l.volume l.bucket l.owner local)) (take l.entry-index l.renamed)
