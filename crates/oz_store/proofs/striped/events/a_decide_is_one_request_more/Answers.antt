use Rattle.oz_store.specs.striped.laws.Stories.{decided_next, others_next, share_decided, story_has_all}
use Rattle.oz_store.proofs.striped.events.a_decide_is_one_request_more.Goals as goal

pub returns-clause-decide : goal.returns-clause-decide
returns-clause-decide c = λ opening story seat id index reply batch request is. decided_next opening story seat id index reply batch request is

pub returns-clause-others : goal.returns-clause-others
returns-clause-others c = λ opening story event none. others_next opening story event none

pub returns-clause-numbers : goal.returns-clause-numbers
returns-clause-numbers c = λ opening story all. story_has_all opening story all

pub returns-clause-share : goal.returns-clause-share
returns-clause-share c = λ stripe opening story part seat id index reply batch request all is its of.
    share_decided stripe opening story part seat id index reply batch request all is its of
