use Rattle.oz_owned.specs.laws.Left.{left_at_opening, left_now, left_still}
use Rattle.oz_owned.proofs.garbage.a_block_leaves_reach_at_a_decide.Goals as goal

pub returns-clause-opening : goal.returns-clause-opening
returns-clause-opening c = λ opening block away. left_at_opening opening block away

pub returns-clause-now : goal.returns-clause-now
returns-clause-now c = λ opening before seat index id reply batch block legal reached away. left_now opening before seat id index reply batch block
    legal reached away

pub returns-clause-still : goal.returns-clause-still
returns-clause-still c = λ opening before more block since legal left used away. left_still opening before more block since legal left used away
