use Rattle.std.proofs.Common.{◌≡◌, [], ◌∷◌, ◌++◌, sym, subst, rules}
use Rattle.oz_reclaim.specs.Work.{IsNextOwner}
use Rattle.oz_om_key.proofs.om_change_lemmas.Walked.{UpTo, all_of_them, at_first, one_more}
use Rattle.oz_om_key.proofs.om_change.numbers.snapshot_numbers.Goals as goal

pub loop-init : goal.loop-init
loop-init g c = subst (UpTo (g.M.RowMap.rows c.args.rows.now) c.args.volume.now c.args.bucket.now 0) (sym c.new-numbers.ensures.items) (at_first (g.M.RowMap.rows c.args.rows.now) c.args.volume.now c.args.bucket.now)

pub returns-then-number-eq0 : goal.returns-then-number-eq0
returns-then-number-eq0 g c =
    let all = g.M.RowMap.rows c.args.rows.now in
    let v = c.args.volume.now in
    let b = c.args.bucket.now in
    all_of_them all v b c.loop.last c.loop.numbers.items c.loop.invariant (subst (IsNextOwner all v b c.loop.last) c.if-number-eq0.true c.number_behind-number.ensures)

pub loop-preserved : goal.loop-preserved
loop-preserved g c =
    let all = g.M.RowMap.rows c.args.rows.now in
    let v = c.args.volume.now in
    let b = c.args.bucket.now in
    let number = c.number_behind-number.result in
    let added : c.push.new.self.items ≡ c.loop.numbers.items ++ number ∷ [] = search rules in
    subst (UpTo all v b number) (sym added) (one_more all v b c.loop.last c.loop.numbers.items c.loop.invariant number c.if-number-eq0.false c.number_behind-number.ensures)
