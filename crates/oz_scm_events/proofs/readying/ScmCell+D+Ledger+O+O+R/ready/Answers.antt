use Rattle.std.proofs.Common.{subst}
use Rattle.oz_core.specs.Seats.{scm_seat}
use Rattle.oz_scm_events.proofs.Kept.{kept_seen}
use Rattle.oz_scm_events.proofs.Left.{halted_later}
use Rattle.oz_turn.specs.Seat.{mine_of, seen_of, IsReady}
use Rattle.oz_scm_events.proofs.readying.ScmCell+D+Ledger+O+O+R.ready.Goals as goal

pub invariant_of-self : goal.invariant_of-self
invariant_of-self g c =
    let O = g.O.Opened in
    let before = c.self.inside.seat in
    let seat = c.reserve.new.seat in
    let its = c.reserve.ensures in (
      subst (λ t. IsReady t scm_seat seat) c.requires its.ready,
      kept_seen O.opening c.self.inside.scm _ (seen_of before) (mine_of before) (seen_of seat) (mine_of seat) c.self.invariant.1 its.mine its.known,
      λ coherent stopped.
          halted_later _ O.opening (seen_of before) (mine_of before) (seen_of seat) (mine_of seat) (c.self.invariant.2 coherent stopped) c.self.invariant.1.own its.goes_on its.known its.mine,
    )
