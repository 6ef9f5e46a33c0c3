use Rattle.oz_store.specs.granted.laws.Handed.{by_its_stripe, handed_granted}
use Rattle.oz_store.proofs.granted.laws.a_block_is_granted_by_its_stripe.Goals as goal

pub returns-clause-seat : goal.returns-clause-seat
returns-clause-seat c = λ opening story event block stripe pipeline legal there is of. by_its_stripe opening story legal event block stripe pipeline there is of

pub returns-clause-of_grant : goal.returns-clause-of_grant
returns-clause-of_grant c = λ opening story stripe block legal handed. handed_granted opening story legal stripe block handed
