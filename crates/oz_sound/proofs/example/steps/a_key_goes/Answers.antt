use Rattle.std.proofs.Common.{None}
use Rattle.oz_rows.specs.RowMaps.{row_of, after_changes}
use Rattle.oz_sound.specs.frames.laws.Moving.{blocks_kept}
use Rattle.oz_sound.specs.example.Example.{rows}
use Rattle.oz_sound.specs.example.Steps.{deleting}
use Rattle.oz_sound.proofs.example_lemmas.Moves.{deleted, delete_sound, delete_renames}
use Rattle.oz_sound.proofs.example_lemmas.Shown.{delete_stands}
use Rattle.oz_sound.proofs.example.steps.a_key_goes.Goals as goal

pub returns-clause-sound : goal.returns-clause-sound
returns-clause-sound c = delete_sound

pub returns-clause-renames : goal.returns-clause-renames
returns-clause-renames c = delete_renames

pub returns-clause-kept : goal.returns-clause-kept
returns-clause-kept c = blocks_kept (row_of rows) (after_changes deleting (row_of rows)) None deleted

pub returns-clause-stands : goal.returns-clause-stands
returns-clause-stands c = delete_stands
