use Rattle.oz_loaded.proofs.Sounds.{own_rows_are_sound, own_rows_are_sound_but_renames}
use Rattle.oz_loaded.proofs.Stand.{stands as own_rows_stand}
use Rattle.oz_loaded.proofs.laws.a_stripes_rows_are_sound.Goals as goal

pub returns-clause-sound : goal.returns-clause-sound
returns-clause-sound c stripe all sound = own_rows_are_sound stripe all sound

pub returns-clause-but_renames : goal.returns-clause-but_renames
returns-clause-but_renames c stripe all sound = own_rows_are_sound_but_renames stripe all sound

pub returns-clause-stand : goal.returns-clause-stand
returns-clause-stand c stripe all namespace part it of = own_rows_stand stripe all namespace part it of
