use Rattle.oz_sound.specs.frames.laws.Apart.{sound_apart, renames_apart}
use Rattle.oz_sound.proofs.frames.laws.rows_of_one_bucket_change.Goals as goal

pub returns-clause-sound : goal.returns-clause-sound
returns-clause-sound c = sound_apart

pub returns-clause-renames : goal.returns-clause-renames
returns-clause-renames c = renames_apart
