use Rattle.std.proofs.Common.{◌≡◌, ◌-◌, ◌++◌, drop}
use Rattle.oz_om_key.proofs.om_change_lemmas.Passing.{kept_of}
use Rattle.oz_om_key.proofs.om_change.passing.numbers_in_question.Given as goal

-- what is kept so far and what will be is what is kept in all
abbrev pub invariant-loop-i : goal.invariant-loop-i
invariant-loop-i g l =
    let all = g.M.RowMap.rows l.rows in
    let v = l.of.volume.now in
    let b = l.of.bucket.now in
    let k = l.of.key.now in
    l.kept.items ++ kept_of all v b k (l.below - l.i) (drop l.i l.numbers) ≡ kept_of all v b k l.below l.numbers
