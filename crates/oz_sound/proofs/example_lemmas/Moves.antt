-- Blocks that move among the example's rows.
use Rattle.std.proofs.Common.{◌≡◌, ◌==◌, ℕ, true, not, [], ◌∷◌, None, Some, refl, arith}
use Rattle.std.proofs.lemmas.Bool.Decides.{nat_tests}
use Rattle.oz_sound.specs.frames.Moves.{BlocksMove}
use Rattle.oz_sound.specs.frames.Sessions.{MayBecome, MayBeDeleted, MayGet, StripesAreBare, blocks_in}
use Rattle.oz_sound.specs.frames.laws.Bare.{bare_stripes}
use Rattle.oz_sound.specs.frames.laws.Moving.{sound_moved, renames_moved}
use Rattle.oz_sound.specs.frames.laws.Parting.{parted_moves}
use Rattle.oz_sound.specs.frames.laws.Committing as commits
use Rattle.oz_sound.specs.frames.laws.Deleting as deletes
use Rattle.oz_sound.specs.frames.laws.Granting.{block_is_granted}
use Rattle.oz_rows.specs.declared.key.RowKey.TheVariants as keys
use Rattle.oz_rows.specs.declared.row.Row.TheVariants as values
use Rattle.oz_rows.specs.Rows.{RowFits}
use Rattle.oz_rows.specs.RowMaps.{Rows, row_of, after_changes}
use Rattle.oz_sound.specs.Sound.{IsSoundButRenames, RenamesAreSound}
use Rattle.oz_sound.specs.example.Example.{rows, home, photos, cat, fox, block, cat_now}
use Rattle.oz_sound.specs.example.Steps.{of_fox, committing, deleting, granting, new_block}
use Rattle.oz_sound.proofs.example_lemmas.Blocks.{each_block, block_passes}
use Rattle.oz_sound.proofs.example_lemmas.Entries.{each_row}
use Rattle.oz_sound.proofs.example_lemmas.Grammar.{rows_fit}
use Rattle.oz_sound.proofs.example_lemmas.SoundRows.{rows_are_sound}

abbrev all : Rows
all = row_of rows

pub most : IsSoundButRenames all
most = record { blocks = rows_are_sound.blocks; names = rows_are_sound.names; numbers = rows_are_sound.numbers; counts = rows_are_sound.counts }

pub bare : StripesAreBare all
bare = bare_stripes all (each_row RowFits rows rows_fit)

-- ---- a session becomes a key

may_commit : MayBecome all home photos fox 11 (block 1 11 ∷ []) of_fox
unfolding rows
may_commit = record { session = refl; free = refl; used = λ b. refl; bare = bare }

pub committed : BlocksMove all (after_changes committing all) None
committed = parted_moves all (keys.Open home photos fox 11) None (keys.Key home photos fox) (Some (values.Key 11 of_fox)) (commits.becomes all home photos fox 11 (block 1 11 ∷ []) of_fox may_commit) most (commits.keeps all home photos fox 11 (block 1 11 ∷ []) of_fox may_commit most)

pub commit_sound : IsSoundButRenames (after_changes committing all)
commit_sound = sound_moved all (after_changes committing all) None committed most

pub commit_renames : RenamesAreSound (after_changes committing all)
commit_renames = renames_moved all (after_changes committing all) None committed most (commits.key_stood all home photos fox 11 (block 1 11 ∷ []) of_fox may_commit) rows_are_sound.renames

-- ---- a key becomes a deleted row

may_delete : MayBeDeleted all home photos cat 9 7 cat_now
unfolding rows
may_delete = record { row = refl; free = refl; bare = bare }

pub deleted : BlocksMove all (after_changes deleting all) None
deleted = parted_moves all (keys.Key home photos cat) None (keys.Deleted home photos 0 cat 7) (Some (values.Deleted (blocks_in cat_now))) (deletes.becomes all home photos cat 9 7 cat_now may_delete) most (deletes.keeps all home photos cat 9 7 cat_now may_delete most)

pub delete_sound : IsSoundButRenames (after_changes deleting all)
delete_sound = sound_moved all (after_changes deleting all) None deleted most

pub delete_renames : RenamesAreSound (after_changes deleting all)
delete_renames = renames_moved all (after_changes deleting all) None deleted most (deletes.names_stay all home photos cat 9 7 cat_now may_delete) rows_are_sound.renames

-- ---- a session gets a block

fresh_local : each_block (λ key twin. not (twin.local == 12)) rows ≡ true
unfolding rows
fresh_local = refl

not_twelve : (n : ℕ) → not (n == 12) ≡ true → n ≡ 12 → ⊥
not_twelve n other e = grind (arith, nat_tests)

may_get : MayGet all home photos cat 10 (block 1 9 ∷ block 1 10 ∷ []) new_block
unfolding rows
may_get = record {
  session = refl;
  fresh = λ twin key stands e. not_twelve twin.local (block_passes (λ key twin. not (twin.local == 12)) rows fresh_local twin key stands) e;
  bare = bare;
}

pub granted : BlocksMove all (after_changes granting all) (Some new_block)
granted = block_is_granted all home photos cat 10 (block 1 9 ∷ block 1 10 ∷ []) new_block may_get most

pub grant_sound : IsSoundButRenames (after_changes granting all)
grant_sound = sound_moved all (after_changes granting all) (Some new_block) granted most
