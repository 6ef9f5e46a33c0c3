use Rattle.std.proofs.Common.{subst}
use Rattle.oz_reclaim.specs.Work.{IsNextOwner}
use Rattle.oz_reclaim.proofs.NotMade.{is_last, so_far}
use Rattle.oz_reclaim.proofs.making.last_number.Goals as goal

pub returns-then-number-eq0 : goal.returns-then-number-eq0
returns-then-number-eq0 g c =
    let all = g.M.RowMap.rows c.args.rows.now in
    let v = c.args.volume.now in
    let b = c.args.bucket.now in
    is_last all v b c.loop.last c.loop.invariant (subst (IsNextOwner all v b c.loop.last) c.if-number-eq0.true c.in_ok-number.ensures)

pub loop-preserved : goal.loop-preserved
loop-preserved g c = so_far (g.M.RowMap.rows c.args.rows.now) c.args.volume.now c.args.bucket.now c.loop.last c.in_ok-number.number c.in_ok-number.ensures
