use Rattle.std.proofs.Common.{rules, ◌≡◌, ◌-◌, length, subst, arith}
use Rattle.oz_om.specs.Seated.{IsNewStripeSeat, IsPartOf, IsUndecided}
use Rattle.oz_om.proofs.Placed.{front_of, last_of, one_more, with_last}
use Rattle.oz_om.proofs.seating.+stripes_below.Goals as goal

pub stripe_over-stripe-requires-clause-part : goal.stripe_over-stripe-requires-clause-part
stripe_over-stripe-requires-clause-part g t c =
    let more = one_more _ _ _ c.in-Some.ensures.items in
    let e : length c.pop.new.self.items ≡ c.args.count - 1 = omega (arith, more, c.requires.part_count) in
    subst (λ n. IsPartOf g.L.Loaded.rows g.L.Loaded.last_index n c.in-Some.part) e
    (last_of (IsPartOf g.L.Loaded.rows g.L.Loaded.last_index) _ _ _ c.in-Some.ensures.items c.requires.parts)

pub stripe_over-stripe-requires-clause-seat : goal.stripe_over-stripe-requires-clause-seat
stripe_over-stripe-requires-clause-seat g t c =
    let more = one_more _ _ _ c.in-Some-pop.ensures.items in
    let e : length c.pop-2.new.self.items ≡ c.args.count - 1 = omega (arith, more, c.requires.seat_count) in
    subst (λ n. IsNewStripeSeat g.R.Ring.turn n c.in-Some-pop.seat) e
    (last_of (IsNewStripeSeat g.R.Ring.turn) _ _ _ c.in-Some-pop.ensures.items c.requires.seats)

pub stripes_below-requires : goal.stripes_below-requires
stripes_below-requires g t c κs within =
    let more_parts = one_more _ _ _ c.in-Some.ensures.items in
    let more_seats = one_more _ _ _ c.in-Some-pop.ensures.items in
    let fewer_parts : length c.pop.new.self.items ≡ c.args.count - 1 = omega (arith, more_parts, c.requires.part_count) in
    let fewer_seats : length c.pop-2.new.self.items ≡ c.args.count - 1 = omega (arith, more_seats, c.requires.seat_count) in
    let parts = front_of (IsPartOf g.L.Loaded.rows g.L.Loaded.last_index) _ _ _ c.in-Some.ensures.items c.requires.parts in
    let seats = front_of (IsNewStripeSeat g.R.Ring.turn) _ _ _ c.in-Some-pop.ensures.items c.requires.seats in (
      search rules,
      (
        search rules,
        (
          search rules,
          (
            search rules,
            (
              omega (arith, c.requires.few),
              (
                c.requires.opens,
                (fewer_parts, (parts, (fewer_seats, (seats, (c.requires.none, omega (arith, c.requires.room)))))),
              ),
            ),
          ),
        ),
      ),
    )

pub returns-clause-undecided : goal.returns-clause-undecided
returns-clause-undecided g t c =
    let e : c.args.count - 1 ≡ length c.stripes_below.new.stripes.items = omega (arith, c.stripes_below.ensures.count) in
    with_last (IsUndecided g.L.Loaded.last_index g.L.Loaded.coherent g.L.Loaded.keeps) c.push_reserved.new.self.items c.stripes_below.new.stripes.items c.stripe_over-stripe.result c.push_reserved.ensures.items c.stripes_below.ensures.undecided
    (subst (λ n. IsUndecided g.L.Loaded.last_index g.L.Loaded.coherent g.L.Loaded.keeps n c.stripe_over-stripe.result) e c.stripe_over-stripe.ensures.stripe)
