-- Each of the example's rows has the one that it needs.
use Rattle.std.proofs.Common.{◌≡◌, Bool, true, List, Option, None, Some, is_some, refl, sym, ◌∙◌, ap}
use mathlib.Core.Bool.{false≢true}
use Rattle.std.specs.List.{list_all}
use Rattle.oz_rows.specs.declared.key.RowKey.{RowKey}
use Rattle.oz_rows.specs.declared.row.Row.{Row}
use Rattle.oz_rows.specs.declared.entry.RowEntry.{RowEntry}
use Rattle.oz_effects.specs.Build.{base_of, AllAreBased}
use Rattle.oz_rows.specs.RowMaps.{row_of}
use Rattle.oz_sound.specs.example.Example.{rows}
use Rattle.oz_sound.proofs.example_lemmas.Entries.{row_passes}

module _ (all : List RowEntry) where
  abbrev is_there : Option RowKey → Bool
  is_there None = true
  is_there (Some base) = is_some (row_of all base)

  abbrev has_base : RowKey → Row → Bool
  has_base key row = is_there (base_of key row)

  based : list_all (λ (entry : RowEntry). has_base entry.key entry.row) all ≡ true → AllAreBased all
  based pass key base orphan =
      false≢true (sym (ap is_some orphan.absent) ∙ sym (ap is_there orphan.needs) ∙ row_passes has_base all pass key orphan.row orphan.stands)

each_has : list_all (λ (entry : RowEntry). has_base rows entry.key entry.row) rows ≡ true
unfolding rows
each_has = refl

pub rows_are_based : AllAreBased rows
rows_are_based = based rows each_has
