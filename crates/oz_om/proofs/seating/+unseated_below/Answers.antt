use Rattle.std.proofs.Common.{rules, ◌≡◌, ◌-◌, ◌∙◌, length, subst, arith}
use Rattle.oz_core.specs.Seats.{stripe_seat}
use Rattle.oz_turn.specs.Seat.{IsReady}
use Rattle.oz_om.specs.Seated.{IsUndecided, IsUnused}
use Rattle.oz_om.proofs.Placed.{front_of, last_of, one_more, with_last}
use Rattle.oz_om.proofs.seating.+unseated_below.Goals as goal

pub into_parts-part-requires : goal.into_parts-part-requires
into_parts-part-requires g t c =
    (last_of (IsUndecided g.L.Loaded.last_index g.L.Loaded.coherent g.L.Loaded.keeps) _ _ _ c.in-Some.ensures.items c.requires.undecided).rests.free

pub unseated_below-requires : goal.unseated_below-requires
unseated_below-requires g t c κs within =
    let more = one_more _ _ _ c.in-Some.ensures.items in
    let fewer : length c.pop.new.self.items ≡ c.args.count - 1 = omega (arith, more, c.requires.count) in
    let front = front_of (IsUndecided g.L.Loaded.last_index g.L.Loaded.coherent g.L.Loaded.keeps) _ _ _ c.in-Some.ensures.items c.requires.undecided in (
      search rules,
      (
        search rules,
        (
          search rules,
          (
            search rules,
            (
              fewer,
              (
                front,
                (
                  c.requires.no_parts,
                  (
                    c.requires.no_seats,
                    (omega (arith, c.requires.part_room), omega (arith, c.requires.seat_room)),
                  ),
                ),
              ),
            ),
          ),
        ),
      ),
    )

pub returns-clause-seats : goal.returns-clause-seats
returns-clause-seats g t c =
    let last = last_of (IsUndecided g.L.Loaded.last_index g.L.Loaded.coherent g.L.Loaded.keeps) _ _ _ c.in-Some.ensures.items c.requires.undecided in
    let more = one_more _ _ _ c.in-Some.ensures.items in
    let number = last.numbered in
    let e : c.in-Some.stripe.number ≡ length c.unseated_below.new.seats.items = omega (arith, number, more, c.requires.count, c.unseated_below.ensures.seat_count) in
    let is = c.into_parts-part.ensures in
    with_last (IsUnused g.R.Ring.turn) c.push_reserved-2.new.self.items c.unseated_below.new.seats.items c.into_parts-part.result.1 c.push_reserved-2.ensures.items c.unseated_below.ensures.seats (record {
      ready = subst (λ n. IsReady g.R.Ring.turn (stripe_seat n) c.into_parts-part.result.1) e is.ready;
      seen = is.events.1 ∙ last.seen;
      mine = is.events.0 ∙ last.mine;
    })
