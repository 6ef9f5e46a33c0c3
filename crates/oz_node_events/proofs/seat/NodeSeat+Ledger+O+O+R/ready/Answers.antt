use Rattle.std.proofs.Common.{◌+◌, ap, ◌∙◌, arith}
use Rattle.oz_turn.specs.Seat.{mine_of, seen_of}
use Rattle.oz_node_events.proofs.Seated.{done_on, kept_on, stays_on}
use Rattle.oz_node_events.proofs.seat.NodeSeat+Ledger+O+O+R.ready.Goals as goal

pub invariant_of-self : goal.invariant_of-self
invariant_of-self g c =
    let O = g.O.Opened in
    let s = c.self.inside in
    let made = c.in_err-reserve.ensures in
    let seat = c.reserve.new.seat in (
      record { of_turn = made.ready.of_turn ∙ c.requires.turn; numbered = made.ready.numbered ∙ ap (λ n. 4 + n) c.from-by.ensures; free = made.ready.free },
      made.lacks ∙ c.self.invariant.1,
      kept_on O.coherent O.opening O.bytes O.script s.dn s.room s.last (seen_of s.seat) (mine_of s.seat) c.self.invariant.2 c.self.invariant.3 c.from-by.result c.from-by.ensures
          (seen_of seat) made.goes_on made.follow (mine_of seat) s.room made.known made.mine,
      done_on O.coherent O.opening O.bytes O.script s.dn s.room s.last (seen_of s.seat) (mine_of s.seat) c.self.invariant.2 c.self.invariant.3 c.from-by.result c.from-by.ensures
          (seen_of seat) made.goes_on made.follow (mine_of seat) s.room made.known made.mine,
      stays_on O.coherent O.opening O.bytes O.script s.dn s.room s.last (seen_of s.seat) (mine_of s.seat) c.self.invariant.2 c.self.invariant.3 c.from-by.result c.from-by.ensures
          (seen_of seat) made.goes_on made.follow (mine_of seat) s.room made.known made.mine c.self.invariant.4,
    )

pub invariant_of-self-2 : goal.invariant_of-self-2
invariant_of-self-2 g c =
    let O = g.O.Opened in
    let s = c.self.inside in
    let made = c.in_ok-reserve.ensures in
    let seat = c.reserve.new.seat in
    let room = s.room + c.saturating_sub-events.result in (
      record { of_turn = made.ready.of_turn ∙ c.requires.turn; numbered = made.ready.numbered ∙ ap (λ n. 4 + n) c.from-by.ensures; free = made.ready.free },
      omega (arith, made.room, c.self.invariant.1),
      kept_on O.coherent O.opening O.bytes O.script s.dn s.room s.last (seen_of s.seat) (mine_of s.seat) c.self.invariant.2 c.self.invariant.3 c.from-by.result c.from-by.ensures
          (seen_of seat) made.goes_on made.follow (mine_of seat) room made.known made.mine,
      done_on O.coherent O.opening O.bytes O.script s.dn s.room s.last (seen_of s.seat) (mine_of s.seat) c.self.invariant.2 c.self.invariant.3 c.from-by.result c.from-by.ensures
          (seen_of seat) made.goes_on made.follow (mine_of seat) room made.known made.mine,
      stays_on O.coherent O.opening O.bytes O.script s.dn s.room s.last (seen_of s.seat) (mine_of s.seat) c.self.invariant.2 c.self.invariant.3 c.from-by.result c.from-by.ensures
          (seen_of seat) made.goes_on made.follow (mine_of seat) room made.known made.mine c.self.invariant.4,
    )
