use Rattle.oz_store.specs.granted.laws.Grants.{grants_in_order, later_above, one_block, one_pipeline, one_stripe}
use Rattle.oz_store.proofs.granted.laws.grants_are_apart.Goals as goal

pub returns-clause-in_order : goal.returns-clause-in_order
returns-clause-in_order c = λ opening story place stripe container pipeline first count later other with beside from many legal lt grant behind.
    grants_in_order opening story legal place stripe container pipeline first count later other with beside from many lt grant behind

pub returns-clause-parts : goal.returns-clause-parts
returns-clause-parts c = λ opening front more stripe pipeline other beside block twin legal of behind. later_above opening front more stripe pipeline other beside block twin legal of behind

pub returns-clause-one : goal.returns-clause-one
returns-clause-one c = λ opening story stripe pipeline other beside block twin legal of also same. (
  one_block opening story legal stripe pipeline other beside block twin of also same,
  one_stripe opening story legal stripe pipeline other beside block twin of also same,
  one_pipeline opening story legal stripe pipeline other beside block twin of also same,
)
