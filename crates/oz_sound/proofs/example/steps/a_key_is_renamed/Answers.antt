use Rattle.oz_sound.proofs.example_lemmas.Renamed.{alone_sound, rename_sound, rename_renames}
use Rattle.oz_sound.proofs.example.steps.a_key_is_renamed.Goals as goal

pub returns-clause-alone : goal.returns-clause-alone
returns-clause-alone c = alone_sound

pub returns-clause-sound : goal.returns-clause-sound
returns-clause-sound c = rename_sound

pub returns-clause-renames : goal.returns-clause-renames
returns-clause-renames c = rename_renames
