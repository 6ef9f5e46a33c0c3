use Rattle.oz_sound.specs.frames.laws.Deleting.{becomes, keeps, names_stay}
use Rattle.oz_sound.proofs.frames.laws.a_key_becomes_a_deleted_row.Goals as goal

pub returns-clause-parted : goal.returns-clause-parted
returns-clause-parted c = becomes

pub returns-clause-keeps : goal.returns-clause-keeps
returns-clause-keeps c = keeps

pub returns-clause-names : goal.returns-clause-names
returns-clause-names c = names_stay
