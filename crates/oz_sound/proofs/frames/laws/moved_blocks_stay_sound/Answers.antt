use Rattle.oz_sound.specs.frames.laws.Moving.{sound_moved, blocks_kept, renames_moved}
use Rattle.oz_sound.proofs.frames.laws.moved_blocks_stay_sound.Goals as goal

pub returns-clause-sound : goal.returns-clause-sound
returns-clause-sound c = sound_moved

pub returns-clause-kept : goal.returns-clause-kept
returns-clause-kept c = blocks_kept

pub returns-clause-renames : goal.returns-clause-renames
returns-clause-renames c = renames_moved
