use Rattle.oz_om.specs.Seated.{HasStoodIn, WasKept}
use Rattle.oz_om.proofs.Placed.{placed_as}
use Rattle.oz_om.proofs.seating.Manager+Ledger+O+O+L+R.into_seats.Goals as goal

pub returns-clause-stood : goal.returns-clause-stood
returns-clause-stood g c = λ coherent.
    placed_as (WasKept g.L.Loaded.keeps) (HasStoodIn g.O.Opened.opening g.L.Loaded.rows) c.seats_below.new.seats.items
    (λ n s was. let keeps = (c.opens.ensures.keeps n _ _ was.0).0 was.1 in record { own = keeps.own; rows = was.0; stood = keeps.stood coherent })
    c.seats_below.ensures.kept
