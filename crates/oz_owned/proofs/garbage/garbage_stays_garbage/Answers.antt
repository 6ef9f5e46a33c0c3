use Rattle.oz_owned.specs.laws.Staying.{garbage_stays, stays_unkept, stays_unpinned, stays_unreached}
use Rattle.oz_owned.proofs.garbage.garbage_stays_garbage.Goals as goal

pub returns-clause-unreached : goal.returns-clause-unreached
returns-clause-unreached c = λ opening story block place later legal le used away reached. stays_unreached opening story block place later legal le
    used away reached

pub returns-clause-unkept : goal.returns-clause-unkept
returns-clause-unkept c = λ opening story block place later most legal le used away within reached. stays_unkept opening story block place later most
    legal le used away within reached

pub returns-clause-unpinned : goal.returns-clause-unpinned
returns-clause-unpinned c = λ opening story block place later legal le used away unpinned has. stays_unpinned opening story block place later legal le
    used away unpinned has

pub returns-clause-garbage : goal.returns-clause-garbage
returns-clause-garbage c = λ opening story block place later legal le garbage. garbage_stays opening story block place later legal le garbage
