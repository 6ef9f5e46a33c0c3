use Rattle.std.proofs.Common.{rules, ◌≡◌, ap, sym, subst}
use Rattle.oz_loaded.specs.Unseated.{UnseatedView}
use Rattle.oz_om.specs.Seated.{ArePlaced, IsPartOf, IsUndecided}
use Rattle.oz_om.proofs.Undecided.{parts_placed}
use Rattle.oz_om.proofs.seating.Manager+Ledger+O+O+L+R.seat.Goals as goal

pub stripes_below-requires-clause-parts : goal.stripes_below-requires-clause-parts
stripes_below-requires-clause-parts g c =
    subst (ArePlaced (IsPartOf g.L.Loaded.rows g.L.Loaded.last_index)) (ap (λ (u : UnseatedView). u.parts) c.into_parts-parts.ensures)
    (parts_placed g.L.Loaded.rows g.L.Loaded.last_index c.args.unseated.parts c.requires.parts)

pub make-requires : goal.make-requires
make-requires g c =
    let made = c.stripes_below.ensures in
    (made.count, λ n s at. let is = made.undecided n s at in (is.numbered, is.rests))

pub unseated_below-requires-clause-undecided : goal.unseated_below-requires-clause-undecided
unseated_below-requires-clause-undecided g c =
    let e : c.in-Err.stripes.items ≡ c.stripes_below.new.stripes.items = search rules in
    subst (ArePlaced (IsUndecided g.L.Loaded.last_index g.L.Loaded.coherent g.L.Loaded.keeps)) (sym e) c.stripes_below.ensures.undecided
