use Rattle.oz_owned.specs.laws.Left.{since_decides, since_once}
use Rattle.oz_owned.proofs.garbage.where_a_block_left_decides.Goals as goal

pub returns-clause-decides : goal.returns-clause-decides
returns-clause-decides c = λ opening story block since place legal left used. since_decides opening story legal block since left place used

pub returns-clause-once : goal.returns-clause-once
returns-clause-once c = λ opening story block since other legal left also. since_once opening story legal block since other left also
