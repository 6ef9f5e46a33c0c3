use Rattle.std.proofs.Common.{Some}
use Rattle.oz_rows.specs.RowMaps.{row_of, after_changes}
use Rattle.oz_sound.specs.frames.laws.Moving.{blocks_kept}
use Rattle.oz_sound.specs.example.Example.{rows}
use Rattle.oz_sound.specs.example.Steps.{granting, new_block}
use Rattle.oz_sound.proofs.example_lemmas.Moves.{granted, grant_sound}
use Rattle.oz_sound.proofs.example.steps.a_session_gets_a_block.Goals as goal

pub returns-clause-sound : goal.returns-clause-sound
returns-clause-sound c = grant_sound

pub returns-clause-kept : goal.returns-clause-kept
returns-clause-kept c = blocks_kept (row_of rows) (after_changes granting (row_of rows)) (Some new_block) granted
