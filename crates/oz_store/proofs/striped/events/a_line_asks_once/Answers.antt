use Rattle.oz_store.specs.striped.laws.Asked.{asked_once, decided_is_asked, pending_is_asked, pending_was_asked}
use Rattle.oz_store.proofs.striped.events.a_line_asks_once.Goals as goal

pub returns-clause-asked : goal.returns-clause-asked
returns-clause-asked c = λ id request story is. pending_was_asked id request story is

pub returns-clause-once : goal.returns-clause-once
returns-clause-once c = λ opening id story seat other_seat request other script legal this that. asked_once opening id script story legal seat other_seat request other this that

pub returns-clause-pends : goal.returns-clause-pends
returns-clause-pends c = λ opening id story place seat request other script legal asked pends. pending_is_asked opening id script story legal place seat request asked other pends

pub returns-clause-decided : goal.returns-clause-decided
returns-clause-decided c = λ opening id story place seat request later decider index reply batch script legal asked decided.
    decided_is_asked opening id script story legal place seat request asked later decider index reply batch decided
