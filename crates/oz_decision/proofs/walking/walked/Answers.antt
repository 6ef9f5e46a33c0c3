use Rattle.std.proofs.Common.{◌≡◌, ◌-◌, [], subst, sym, arith}
use Rattle.oz_decision.specs.laws.Walks.{Walked, begins, steps, ends, step_left}
use Rattle.oz_decision.proofs.walking.walked.Goals as goal

pub loop-init : goal.loop-init
loop-init g c = λ absent.
    let all = g.M.RowMap.rows c.args.rows.now in
    let from = c.args.from.now in
    let to = c.args.to.now in
    let whole : c.count-count.result ≡ c.count-count.result - 0 = omega arith in
    subst (λ found. Walked all from to found (c.count-count.result - 0)) (sym c.new-found.ensures.items)
    (subst (λ left. Walked all from to [] left) whole (begins all from to c.count-count.result c.count-count.ensures))

pub loop-preserved : goal.loop-preserved
loop-preserved g c = λ absent.
    let all = g.M.RowMap.rows c.args.rows.now in
    let from = c.args.from.now in
    let to = c.args.to.now in
    let count = c.count-count.result in
    let counter = c.loop.counter in
    subst (λ left. Walked all from to c.step.new.found.items left) (step_left count counter)
    (steps all from to absent c.requires c.loop.found.items c.step.new.found.items (count - counter) (omega (arith, c.loop-test.true)) c.in_ok-step.ensures (c.loop.invariant absent))

pub returns : goal.returns
returns g c = λ absent.
    let all = g.M.RowMap.rows c.args.rows.now in
    let none : c.count-count.result - c.loop.counter ≡ 0 = omega arith in
    ends all c.args.from.now c.args.to.now c.loop.found.items (subst (λ left. Walked all c.args.from.now c.args.to.now c.loop.found.items left) none (c.loop.invariant absent))
