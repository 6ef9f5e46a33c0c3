use Rattle.oz_sound.proofs.example_lemmas.Based.{rows_are_based}
use Rattle.oz_sound.proofs.example_lemmas.Grammar.{rows_fit}
use Rattle.oz_sound.proofs.example_lemmas.Standing.{rows_stand}
use Rattle.oz_sound.proofs.example_lemmas.SoundRows.{rows_rise, rows_are_sound}
use Rattle.oz_sound.proofs.example.laws.these_rows_are_sound.Goals as goal

pub returns-clause-grammar : goal.returns-clause-grammar
returns-clause-grammar c = rows_fit

pub returns-clause-in_order : goal.returns-clause-in_order
returns-clause-in_order c = rows_rise

pub returns-clause-stands : goal.returns-clause-stands
returns-clause-stands c = rows_stand

pub returns-clause-sound : goal.returns-clause-sound
returns-clause-sound c = rows_are_sound

pub returns-clause-based : goal.returns-clause-based
returns-clause-based c = rows_are_based
