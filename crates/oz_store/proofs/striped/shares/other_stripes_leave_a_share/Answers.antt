use Rattle.oz_store.specs.striped.laws.Requests.{share_elsewhere}
use Rattle.oz_store.proofs.striped.shares.other_stripes_leave_a_share.Goals as goal

pub returns : goal.returns
returns c = λ stripe namespace part request reply apart of. share_elsewhere stripe namespace part request reply apart of
