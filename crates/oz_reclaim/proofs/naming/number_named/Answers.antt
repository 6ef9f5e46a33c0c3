use Rattle.std.proofs.Common.{◌≡◌, false, sym, ◌∙◌, ap, subst, rules}
use Rattle.oz_reclaim.specs.Numbered.{is_named}
use Rattle.oz_reclaim.specs.Work.{IsNextOwner}
use Rattle.oz_reclaim.proofs.Named.{none_behind, not_this}
use Rattle.oz_reclaim.proofs.naming.number_named.Goals as goal

pub returns-then-number-eq0 : goal.returns-then-number-eq0
returns-then-number-eq0 g c =
    let all = g.M.RowMap.rows c.args.rows.now in
    let v = c.args.volume.now in
    let b = c.args.bucket.now in
    none_behind all v b c.args.name.now c.loop.last c.loop.invariant (subst (IsNextOwner all v b c.loop.last) c.if-number-eq0.true c.in_ok-number.ensures)

pub loop-preserved : goal.loop-preserved
loop-preserved g c =
    let all = g.M.RowMap.rows c.args.rows.now in
    let v = c.args.volume.now in
    let b = c.args.bucket.now in
    let name = c.args.name.now in
    let other : is_named (all c.in_ok-of_snapshot.of_snapshot) name ≡ false = search rules in
    not_this all v b name c.loop.last c.in_ok-number.number c.in_ok-number.ensures c.loop.invariant (ap (λ k. is_named (all k) name) (sym c.in_ok-of_snapshot.ensures) ∙ other)
