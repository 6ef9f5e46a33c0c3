use Rattle.oz_service.specs.laws.Looked.{stripe_pins}
use Rattle.oz_service.proofs.looks.a_stripes_pins_are_pinned.Goals as goal

pub returns : goal.returns
returns c = λ stripe seen pins block named has. stripe_pins stripe seen pins named block has
