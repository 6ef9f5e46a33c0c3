use Rattle.std.proofs.Common.{◌+◌, ap, ◌∙◌}
use Rattle.oz_turn.specs.Seat.{mine_of, seen_of}
use Rattle.oz_node_events.proofs.Seated.{done_on, kept_on, stays_on}
use Rattle.oz_node_events.proofs.seat.NodeSeat+Ledger+O+O+R.show.Goals as goal

pub invariant_of-self : goal.invariant_of-self
invariant_of-self g c =
    let O = g.O.Opened in
    let s = c.self.inside in
    let show = c.show.ensures in
    let seat = c.show.new.seat in (
      record { of_turn = show.ready.of_turn ∙ c.requires.turn; numbered = show.ready.numbered ∙ ap (λ n. 4 + n) c.from-number.ensures; free = show.ready.free },
      show.room ∙ c.self.invariant.1,
      kept_on O.coherent O.opening O.bytes O.script s.dn s.room s.last (seen_of s.seat) (mine_of s.seat) c.self.invariant.2 c.self.invariant.3 c.from-number.result c.from-number.ensures
          (seen_of seat) show.goes_on show.follow (mine_of seat) s.room show.known show.mine,
      done_on O.coherent O.opening O.bytes O.script s.dn s.room s.last (seen_of s.seat) (mine_of s.seat) c.self.invariant.2 c.self.invariant.3 c.from-number.result c.from-number.ensures
          (seen_of seat) show.goes_on show.follow (mine_of seat) s.room show.known show.mine,
      stays_on O.coherent O.opening O.bytes O.script s.dn s.room s.last (seen_of s.seat) (mine_of s.seat) c.self.invariant.2 c.self.invariant.3 c.from-number.result c.from-number.ensures
          (seen_of seat) show.goes_on show.follow (mine_of seat) s.room show.known show.mine c.self.invariant.4,
    )
