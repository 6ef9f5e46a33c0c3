use Rattle.std.proofs.Common.{List, sym, ◌∙◌, ap, subst, rules}
use Rattle.oz_rows.specs.declared.entry.RowEntry.{RowEntry}
use Rattle.oz_rows.specs.RowMaps.{Rows, HasNoNext, IsNext}
use Rattle.oz_rows.specs.laws.Order.{equal_from_test}
use Rattle.oz_effects.specs.Parts.{front_of, home_of, kind_in, own_row}
use Rattle.oz_effects.proofs.Gathering.{Gathered, begins, steps, none_past, ends, told_by}
use Rattle.oz_effects.proofs.parts.part_rows.Goals as goal

pub loop-init : goal.loop-init
loop-init g c = λ all are.
    let front = front_of c.args.part c.args.volume.now c.args.bucket.now in
    subst (λ (found : List RowEntry). Gathered front all found c.args.start.now)
    (ap (own_row c.args.start.now) (are.rows_are c.args.start.now) ∙ sym c.in_ok-found.ensures)
    (begins front c.args.start.now all are.in_order c.requires)

pub returns-in_default : goal.returns-in_default
returns-in_default g c = λ all are.
    let none : HasNoNext (g.M.RowMap.rows c.args.rows.now) c.loop.last.now = search rules in
    let told = told_by all (g.M.RowMap.rows c.args.rows.now) are in
    ends (kind_in c.args.part) (home_of c.args.part c.args.volume.now c.args.bucket.now) all c.loop.found.items c.loop.last.now are.in_order (c.loop.invariant all are)
    (λ q is_above is. subst (λ (rows : Rows). HasNoNext rows c.loop.last.now) (sym told) none q is_above)

pub returns-then-not-is_within : goal.returns-then-not-is_within
returns-then-not-is_within g c = λ all are.
    let front = front_of c.args.part c.args.volume.now c.args.bucket.now in
    let told = told_by all (g.M.RowMap.rows c.args.rows.now) are in
    let next = subst (λ (rows : Rows). IsNext rows c.loop.last.now c.in-Some.key.now c.in-Some.row.now) (sym told) c.in-Some.ensures in
    let it = c.loop.invariant all are in
    ends (kind_in c.args.part) (home_of c.args.part c.args.volume.now c.args.bucket.now) all c.loop.found.items c.loop.last.now are.in_order it
    (none_past front all c.loop.found.items c.loop.last.now are.in_order c.in-Some.key.now c.in-Some.row.now next it.last_is (sym c.if-not-is_within.ensures))

pub loop-preserved : goal.loop-preserved
loop-preserved g c = λ all are.
    let front = front_of c.args.part c.args.volume.now c.args.bucket.now in
    let told = told_by all (g.M.RowMap.rows c.args.rows.now) are in
    let next = subst (λ (rows : Rows). IsNext rows c.loop.last.now c.in-Some.key.now c.in-Some.row.now) (sym told) c.in-Some.ensures in
    subst (λ (found : List RowEntry). Gathered front all found c.in-Some.key.now) (sym c.in_ok-push.ensures.items)
    (steps front all c.loop.found.items c.loop.last.now are.in_order c.in-Some.key.now c.in-Some.row.now next (equal_from_test _ (sym c.if-not-is_within.ensures)) (c.loop.invariant all are))
