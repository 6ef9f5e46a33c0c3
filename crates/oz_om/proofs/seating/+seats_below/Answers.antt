use Rattle.std.proofs.Common.{rules, ◌≡◌, ◌-◌, length, sym, subst, arith}
use Rattle.oz_cache.specs.Cache.{newest}
use Rattle.oz_core.specs.Seats.{stripe_seat}
use Rattle.oz_turn.specs.Seat.{IsReady, mine_of, seen_of}
use Rattle.oz_om.specs.Seated.{IsReadyStripeSeat, WasKept}
use Rattle.oz_om.proofs.Placed.{IsInPlace, front_of, last_of, one_more, with_last}
use Rattle.oz_om.proofs.seating.+seats_below.Goals as goal

pub into_parts-seat-requires : goal.into_parts-seat-requires
into_parts-seat-requires g t c =
    (last_of (IsInPlace g.L.Loaded.last_index g.L.Loaded.coherent g.L.Loaded.keeps) _ _ _ c.in-Some.ensures.items c.requires.in_order).1.free

pub seats_below-requires : goal.seats_below-requires
seats_below-requires g t c κs within =
    let more = one_more _ _ _ c.in-Some.ensures.items in
    let fewer : length c.pop.new.self.items ≡ c.args.count - 1 = omega (arith, more, c.requires.count) in
    let front = front_of (IsInPlace g.L.Loaded.last_index g.L.Loaded.coherent g.L.Loaded.keeps) _ _ _ c.in-Some.ensures.items c.requires.in_order in
    (search rules, (search rules, (search rules, (search rules, (fewer, (front, (c.requires.none, omega (arith, c.requires.room))))))))

pub returns-clause-ready : goal.returns-clause-ready
returns-clause-ready g t c =
    let last = last_of (IsInPlace g.L.Loaded.last_index g.L.Loaded.coherent g.L.Loaded.keeps) _ _ _ c.in-Some.ensures.items c.requires.in_order in
    let more = one_more _ _ _ c.in-Some.ensures.items in
    let number = last.0 in
    let e : c.in-Some.stripe.number ≡ length c.seats_below.new.seats.items = omega (arith, number, more, c.requires.count, c.seats_below.ensures.count) in
    with_last (IsReadyStripeSeat g.R.Ring.turn) c.push_reserved.new.self.items c.seats_below.new.seats.items c.into_parts-seat.result.1 c.push_reserved.ensures.items c.seats_below.ensures.ready
    (subst (λ n. IsReady g.R.Ring.turn (stripe_seat n) c.into_parts-seat.result.1) e c.into_parts-seat.ensures.ready)

pub returns-clause-kept : goal.returns-clause-kept
returns-clause-kept g t c =
    let Keeps = g.L.Loaded.keeps in
    let last = last_of (IsInPlace g.L.Loaded.last_index g.L.Loaded.coherent Keeps) _ _ _ c.in-Some.ensures.items c.requires.in_order in
    let more = one_more _ _ _ c.in-Some.ensures.items in
    let number = last.0 in
    let e : c.in-Some.stripe.number ≡ length c.seats_below.new.seats.items = omega (arith, number, more, c.requires.count, c.seats_below.ensures.count) in
    let rows = newest c.in-Some.stripe.cache in
    let kept : WasKept Keeps (length c.seats_below.new.seats.items) c.into_parts-seat.result.1 = (
      rows,
      subst (λ n. Keeps n (mine_of c.into_parts-seat.result.1) (seen_of c.into_parts-seat.result.1) rows) e
          (subst (λ l. Keeps c.in-Some.stripe.number l (seen_of c.into_parts-seat.result.1) rows) (sym c.into_parts-seat.ensures.events.0)
          (subst (λ l. Keeps c.in-Some.stripe.number c.in-Some.stripe.mine l rows) (sym c.into_parts-seat.ensures.events.1) last.1.keeps)),
    ) in
    with_last (WasKept Keeps) c.push_reserved.new.self.items c.seats_below.new.seats.items c.into_parts-seat.result.1 c.push_reserved.ensures.items c.seats_below.ensures.kept kept
