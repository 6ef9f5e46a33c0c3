use Rattle.std.proofs.Common.{◌≡◌, List, subst}
use Rattle.std.specs.Prelude.{IfOk}
use Rattle.oz_core.specs.declared.event.Event.{Event}
use Rattle.oz_core.specs.Manager.{namespace_of}
use Rattle.oz_om.specs.Tallies.{tally_of}
use Rattle.oz_om.proofs.tallying.Manager+Ledger+O+O+L+R.tally.Goals as goal

pub returns-clause-tally : goal.returns-clause-tally
returns-clause-tally g c =
    subst (λ (l : List Event). IfOk c.tally_of_stripe-tally.result
    (λ tally. g.O.Opened.coherent → tally ≡ tally_of (namespace_of g.O.Opened.opening l) c.args.volume.now))
    c.look.ensures.seen c.tally_of_stripe-tally.ensures
