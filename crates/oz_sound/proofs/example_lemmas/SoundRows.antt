-- The example's rows pass the tests.
use Rattle.std.proofs.Common.{◌≡◌, ◌∷◌, [], ℕ, List, true, refl, arith}
use Rattle.std.specs.List.{list_all}
use Rattle.oz_rows.specs.declared.entry.RowEntry.{RowEntry}
use Rattle.oz_sound.specs.Sound.{IsSound}
use Rattle.oz_rows.specs.RowMaps.{row_of, KeysRise}
use Rattle.oz_sound.specs.example.Example.{rows}
use Rattle.oz_sound.proofs.example_lemmas.Entries.{do_rise, rising}
use Rattle.oz_sound.proofs.example_lemmas.Few.{keys_passing}
use Rattle.oz_sound.proofs.example_lemmas.Tests.{has_number}
use Rattle.oz_sound.proofs.example_lemmas.BlockFacts.{BlocksPass, blocks_are_sound}
use Rattle.oz_sound.proofs.example_lemmas.NameFacts.{NamesPass, names_are_sound, renames_are_sound}
use Rattle.oz_sound.proofs.example_lemmas.NumberFacts.{NumbersPass, numbers_are_sound}
use Rattle.oz_sound.proofs.example_lemmas.CountFacts.{AreFew, counts_are_sound}

do_all_rise : do_rise rows ≡ true
unfolding rows do_rise
do_all_rise = refl

pub rows_rise : KeysRise rows
rows_rise = rising rows do_all_rise

-- the numbers of the live snapshots
live : List ℕ
live = 5 ∷ 7 ∷ 8 ∷ []

are_numbered : list_all (λ (entry : RowEntry). has_number live entry.key entry.row) rows ≡ true
unfolding rows live
are_numbered = refl

blocks_pass : BlocksPass rows rows_rise live are_numbered
unfolding rows live
blocks_pass = record { bucket = refl; home = refl; local = refl; keepers = refl; snapshots = refl }

names_pass : NamesPass rows rows_rise
unfolding rows
names_pass = record { snapshots = refl; names = refl; sessions = refl; renames = refl; notes = refl }

numbers_pass : NumbersPass rows
unfolding rows
numbers_pass = record { sessions = refl; snapshots = refl; deleted = refl; renamed = refl; snapshot_keys = refl }

are_few : AreFew rows
unfolding rows keys_passing
are_few = record { buckets = omega arith; uses = omega arith; snapshots = omega arith; snapshot_keys = omega arith }

pub rows_are_sound : IsSound (row_of rows)
rows_are_sound = record {
  blocks = blocks_are_sound rows rows_rise live are_numbered blocks_pass;
  names = names_are_sound rows rows_rise names_pass;
  renames = renames_are_sound rows rows_rise names_pass;
  numbers = numbers_are_sound rows numbers_pass;
  counts = counts_are_sound rows are_few;
}
