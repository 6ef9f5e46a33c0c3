use Rattle.oz_store.specs.striped.laws.Stories.{share_of_seen}
use Rattle.oz_store.proofs.striped.events.a_share_stays_where_others_decide.Goals as goal

pub returns : goal.returns
returns c = λ stripe opening story seen more part legal parts own of. share_of_seen stripe opening story seen more part legal parts own of
