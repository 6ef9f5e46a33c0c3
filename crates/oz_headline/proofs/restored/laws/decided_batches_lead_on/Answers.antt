use Rattle.std.proofs.Common.{[]}
use Rattle.oz_headline.specs.restored.laws.Leads.{leads_between, since_swap}
use Rattle.oz_headline.specs.restored.laws.Whole.{front_stood}
use Rattle.oz_headline.proofs.restored.laws.decided_batches_lead_on.Goals as goal

pub returns-clause-between : goal.returns-clause-between
returns-clause-between c = λ opening loaded front more last stood none.
    let halves = front_stood opening loaded front [] loaded more last stood in
    (halves.0, halves.1, leads_between opening loaded front more halves.0 last none halves.2)

pub returns-clause-since : goal.returns-clause-since
returns-clause-since c = λ opening loaded story last legal stood. since_swap opening loaded story last legal stood
