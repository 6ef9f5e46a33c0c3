use Rattle.std.proofs.Common.{None}
use Rattle.oz_rows.specs.RowMaps.{row_of, after_changes}
use Rattle.oz_sound.specs.frames.laws.Moving.{blocks_kept}
use Rattle.oz_sound.specs.example.Example.{rows}
use Rattle.oz_sound.specs.example.Steps.{committing}
use Rattle.oz_sound.proofs.example_lemmas.Moves.{committed, commit_sound, commit_renames}
use Rattle.oz_sound.proofs.example.steps.a_session_commits.Goals as goal

pub returns-clause-sound : goal.returns-clause-sound
returns-clause-sound c = commit_sound

pub returns-clause-renames : goal.returns-clause-renames
returns-clause-renames c = commit_renames

pub returns-clause-kept : goal.returns-clause-kept
returns-clause-kept c = blocks_kept (row_of rows) (after_changes committing (row_of rows)) None committed
