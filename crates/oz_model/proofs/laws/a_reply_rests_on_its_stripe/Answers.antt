use Rattle.oz_model.specs.laws.Stripes.{replies_agree, left_agree, elsewhere, other_volumes}
use Rattle.oz_model.proofs.laws.a_reply_rests_on_its_stripe.Goals as goal

pub returns-clause-reply : goal.returns-clause-reply
returns-clause-reply c = replies_agree

pub returns-clause-left : goal.returns-clause-left
returns-clause-left c = left_agree

pub returns-clause-elsewhere : goal.returns-clause-elsewhere
returns-clause-elsewhere c = elsewhere

pub returns-clause-others : goal.returns-clause-others
returns-clause-others c = other_volumes
