use Rattle.std.proofs.Common.{◌≡◌, ◌-◌, true, suc, sym, ◌∙◌, arith}
use Rattle.oz_om_key.proofs.om_change_lemmas.Passed.{found_before}
use Rattle.oz_om_key.proofs.om_change.noting.is_held.Goals as goal

pub returns-then-branch : goal.returns-then-branch
returns-then-branch g c =
    let of = c.args.of.now in
    let next : c.loop-i.i ≡ suc (c.loop-i.i - 1) = omega (arith, c.loop-i-test.true) in
    sym {b = true} (found_before (g.M.RowMap.rows c.args.rows.now) of.volume.now of.bucket.now of.key.now c.args.block c.args.numbers.now c.loop-i.i (c.loop-i.i - 1) c.loop-i.name.now next (omega (arith, c.loop-i.auto.i)) c.loop-i.invariant
    (sym c.in_ok-is_in_snapshot.ensures ∙ c.if-branch.true))
