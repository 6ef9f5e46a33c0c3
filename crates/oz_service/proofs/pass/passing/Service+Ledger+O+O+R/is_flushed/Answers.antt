use Rattle.std.proofs.Common.{◌∙◌}
use Rattle.oz_turn.specs.Seat.{mine_of, number_of, seen_of}
use Rattle.oz_service.proofs.Waits.{awaits_on, own_of}
use Rattle.oz_service.proofs.pass.passing.Service+Ledger+O+O+R.is_flushed.Goals as goal

pub invariant_of-self : goal.invariant_of-self
invariant_of-self g c =
    let O = g.O.Opened in
    let before = c.self.inside.seat in
    let after = c.see-durable.new.seat in
    let shown = c.see-durable.ensures.shown in (
      shown.ready,
      shown.follow,
      c.self.invariant.2,
      λ coherent. awaits_on O.coherent O.opening O.bytes O.script (seen_of before) (seen_of after) (mine_of before) c.self.inside.waiting coherent
          shown.goes_on shown.follow
          (own_of (number_of before) (seen_of before) (mine_of before) c.self.invariant.0.numbered c.knows_own.ensures)
          (own_of (number_of after) (seen_of after) (mine_of before) shown.ready.numbered (c.knows_own-2.ensures ∙ shown.mine))
          (c.self.invariant.3 coherent),
    )
