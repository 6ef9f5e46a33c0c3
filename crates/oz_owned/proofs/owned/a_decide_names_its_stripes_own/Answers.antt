use Rattle.oz_owned.specs.laws.Owned.{named_is_own}
use Rattle.oz_owned.proofs.owned.a_decide_names_its_stripes_own.Goals as goal

pub returns : goal.returns
returns c = λ opening bytes loaded story seat index id reply batch block store legal there named.
    named_is_own opening bytes loaded store story legal seat id index reply batch block there named
