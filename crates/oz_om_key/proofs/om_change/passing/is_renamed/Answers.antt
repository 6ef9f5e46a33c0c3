use Rattle.std.proofs.Common.{◌≡◌, ◌<◌, ◌-◌, Bool, true, false, sym, ◌∙◌, ap, subst, arith}
use Rattle.std.specs.Bool.{OnFalse}
use Rattle.oz_om_key.specs.om_change.Passing.{HasNoneRenamed}
use Rattle.oz_om_key.proofs.om_change_lemmas.Passing.{next_beyond, no_next, on_false}
use Rattle.oz_rows.specs.declared.key.RowKey.TheVariants as keys
use Rattle.oz_rows.specs.RowMaps.{HasNoNext, IsNext}
use Rattle.oz_om_key.proofs.om_change.passing.is_renamed.Goals as goal

pub returns-in-Some-next : goal.returns-in-Some-next
returns-in-Some-next g c =
    let all = g.M.RowMap.rows c.args.rows.now in
    let v = c.args.of.now.volume.now in
    let b = c.args.of.now.bucket.now in
    let before = c.in-Some.before in
    let under : before < c.args.span.least = omega (arith, c.in-Some.ensures) in
    on_false c.is_within.result (HasNoneRenamed all v b c.args.span c.args.number) (λ beyond local least most.
    next_beyond all v b c.args.number before c.args.span.greatest c.in-Some-next.key.now c.in-Some-next._row.now
    (subst (λ x. IsNext all x c.in-Some-next.key.now c.in-Some-next._row.now) c.in_ok-of_renamed.ensures c.in-Some-next.ensures)
    (sym c.is_within.ensures ∙ beyond) local (omega (arith, under, least)) most)

pub returns : goal.returns
returns g c local least most =
    let all = g.M.RowMap.rows c.args.rows.now in
    let before = c.in-Some.before in
    let under : before < c.args.span.least = omega (arith, c.in-Some.ensures) in
    no_next all c.args.of.now.volume.now c.args.of.now.bucket.now c.args.number before c.args.span.greatest
    (subst (HasNoNext all) c.in_ok-of_renamed.ensures c.in-None.ensures) local (omega (arith, under, least))
