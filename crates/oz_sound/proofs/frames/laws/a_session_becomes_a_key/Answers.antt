use Rattle.oz_sound.specs.frames.laws.Committing.{becomes, keeps, key_stood}
use Rattle.oz_sound.proofs.frames.laws.a_session_becomes_a_key.Goals as goal

pub returns-clause-parted : goal.returns-clause-parted
returns-clause-parted c = becomes

pub returns-clause-keeps : goal.returns-clause-keeps
returns-clause-keeps c = keeps

pub returns-clause-names : goal.returns-clause-names
returns-clause-names c = key_stood
