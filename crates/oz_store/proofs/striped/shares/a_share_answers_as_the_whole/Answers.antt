use Rattle.oz_store.specs.striped.laws.Requests.{share_after, share_answers, share_stays, share_writes_nothing}
use Rattle.oz_store.proofs.striped.shares.a_share_answers_as_the_whole.Goals as goal

pub returns-clause-replies : goal.returns-clause-replies
returns-clause-replies c = λ stripe namespace part request reply its of. share_answers stripe namespace part request reply its of

pub returns-clause-left : goal.returns-clause-left
returns-clause-left c = λ stripe namespace part request reply its of all. share_after stripe namespace part request reply its of all

pub returns-clause-stays : goal.returns-clause-stays
returns-clause-stays c = λ stripe namespace part request reply its of all. share_stays stripe namespace part request reply its of all

pub returns-clause-writes_nothing : goal.returns-clause-writes_nothing
returns-clause-writes_nothing c = λ stripe namespace part request reply its of all. share_writes_nothing stripe namespace part request reply its of all
