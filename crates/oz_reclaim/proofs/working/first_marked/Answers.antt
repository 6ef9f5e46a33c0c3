use Rattle.std.proofs.Common.{◌≡◌, false, Some, rules}
use Rattle.oz_reclaim.specs.Work.{is_marked}
use Rattle.oz_reclaim.proofs.Firsts.{nothing_before, not_this_one}
use Rattle.oz_reclaim.proofs.working.first_marked.Goals as goal

pub loop-init : goal.loop-init
loop-init g c =
    let all = g.M.RowMap.rows c.args.rows.now in
    let not : is_marked (all c.args.start.now) ≡ false = search rules in
    nothing_before all c.args.start.now c.requires.least c.requires.snapshot not

pub loop-preserved : goal.loop-preserved
loop-preserved g c =
    let all = g.M.RowMap.rows c.args.rows.now in
    let not : is_marked (Some c.in-Some.row.now) ≡ false = search rules in
    not_this_one all c.loop.last.now c.loop.invariant c.in-Some.key.now c.in-Some.row.now c.in-Some.ensures not
