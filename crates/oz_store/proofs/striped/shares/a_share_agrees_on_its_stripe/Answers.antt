use Rattle.oz_store.specs.striped.laws.Shares.{agreeing_share, share_agrees}
use Rattle.oz_store.proofs.striped.shares.a_share_agrees_on_its_stripe.Goals as goal

pub returns-clause-agree : goal.returns-clause-agree
returns-clause-agree c = λ stripe namespace part all of. share_agrees stripe namespace part of all

pub returns-clause-same : goal.returns-clause-same
returns-clause-same c = λ stripe namespace other part agree of. agreeing_share stripe namespace other part agree of
