use Rattle.std.proofs.Common.{rules, ◌≡◌, ◌-◌, ◌∙◌, length, sym, ap, subst, arith}
use Rattle.oz_core.specs.Seats.{datanode_seat}
use Rattle.oz_node_events.specs.NodeSeat.{StandsFor}
use Rattle.oz_replicas.specs.Cells.{IsAtRest}
use Rattle.oz_at_work.specs.servers.Begun.{new_seat}
use Rattle.oz_at_work.proofs.servers_lemmas.Placed.{front_of, last_of, one_more, with_last}
use Rattle.oz_turn.specs.Seat.{IsNewSeat}
use Rattle.oz_at_work.proofs.servers.seating.+seat_below.Goals as goal

pub new-cell-requires : goal.new-cell-requires
new-cell-requires g t c =
    let D = g.D.Disk in
    let O = g.O.Opened in
    let Stands = StandsFor D.told D.clock D.image D.faults O.coherent O.opening O.bytes O.script O.faults in
    let more = one_more _ _ _ c.in-Some.ensures.items in
    let e : length c.pop.new.self.items ≡ c.args.count - 1 = omega (arith, more, c.requires.count) in
    let last = last_of (λ dn node. IsAtRest Stands node (new_seat dn)) _ _ _ c.in-Some.ensures.items c.requires.nodes in
    subst (λ v. IsAtRest Stands c.in-Some.node v) (sym c.make.ensures) (subst (λ n. IsAtRest Stands c.in-Some.node (new_seat n)) e last)

pub seat_below-requires : goal.seat_below-requires
seat_below-requires g t c κs within =
    let D = g.D.Disk in
    let O = g.O.Opened in
    let Stands = StandsFor D.told D.clock D.image D.faults O.coherent O.opening O.bytes O.script O.faults in
    let more_nodes = one_more _ _ _ c.in-Some.ensures.items in
    let more_seats = one_more _ _ _ c.in-Some-pop.ensures.items in
    let fewer_nodes : length c.pop.new.self.items ≡ c.args.count - 1 = omega (arith, more_nodes, c.requires.count) in
    let fewer_seats : length c.pop-2.new.self.items ≡ c.args.count - 1 = omega (arith, more_seats, c.requires.seat_count) in
    let nodes = front_of (λ dn node. IsAtRest Stands node (new_seat dn)) _ _ _ c.in-Some.ensures.items c.requires.nodes in
    let seats = front_of (λ dn s. IsNewSeat g.R.Ring.turn (datanode_seat dn) s) _ _ _ c.in-Some-pop.ensures.items c.requires.seats in (
      search rules,
      (
        search rules,
        (
          search rules,
          (
            search rules,
            (
              search rules,
              (
                fewer_nodes,
                (
                  fewer_seats,
                  (
                    omega (arith, c.requires.opened),
                    (
                      omega (arith, c.requires.most),
                      (
                        c.requires.numbered,
                        (nodes, (seats, (c.requires.none, omega (arith, c.requires.room)))),
                      ),
                    ),
                  ),
                ),
              ),
            ),
          ),
        ),
      ),
    )

pub returns-clause-order : goal.returns-clause-order
returns-clause-order g t c =
    let D = g.D.Disk in
    let O = g.O.Opened in
    let Stands = StandsFor D.told D.clock D.image D.faults O.coherent O.opening O.bytes O.script O.faults in
    let more = one_more _ _ _ c.in-Some.ensures.items in
    let last = last_of (λ dn node. IsAtRest Stands node (new_seat dn)) _ _ _ c.in-Some.ensures.items c.requires.nodes in
    let e : length c.pop.new.self.items ≡ length c.seat_below.new.cells.items = omega (arith, more, c.requires.count, c.seat_below.ensures.count) in
    with_last (λ place cell. cell.node.id ≡ place) c.push_reserved.new.self.items c.seat_below.new.cells.items c.new-cell.result c.push_reserved.ensures.items c.seat_below.ensures.order
    (ap (λ v. v.node.id) c.new-cell.ensures ∙ (last.stood.number ∙ e))
