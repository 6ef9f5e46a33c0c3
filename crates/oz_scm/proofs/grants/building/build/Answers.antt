use Rattle.std.proofs.Common.{◌≡◌, ℕ, suc, ◌+◌, ◌<◌, List, length, take, sym, subst, arith, Ok, Err}
use Rattle.oz_journal.specs.Body.{bodies_in}
use Rattle.oz_scm.specs.grants.Build.{Makes, FailsAt, body_at}
use Rattle.oz_scm.specs.grants.Steps.{made_in}
use Rattle.oz_scm.specs.grants.laws.Journals.{none_made, one_more_made, fails_here}
use Rattle.oz_scm.proofs.grants.building.build.Goals as goal

pub loop-count-init : goal.loop-count-init
loop-count-init c = none_made

pub returns-in-Err-clause-damaged : goal.returns-in-Err-clause-damaged
returns-in-Err-clause-damaged c body at is =
    let bodies = c.args.bodies.now in
    let k = c.loop-count.count in
    let lt : k < length bodies = omega arith in
    let told = c.in-Err.ensures.damaged body at is in
    let reads = subst (λ (bytes : List ℕ). body_at (made_in c.loop-count.found) bytes ≡ Err at) c.items.ensures told.1 in
    subst (λ (n : ℕ). FailsAt (bodies_in bodies) n at) (sym told.0) (fails_here bodies k c.index-bodies-count.result (made_in c.loop-count.found) at lt c.index-bodies-count.is c.loop-count.invariant reads)

pub loop-count-preserved : goal.loop-count-preserved
loop-count-preserved c =
    let bodies = c.args.bodies.now in
    let k = c.loop-count.count in
    let lt : k < length bodies = omega arith in
    let next : suc k ≡ k + 1 = omega arith in
    let step = c.in-Ok.ensures.next in
    let reads = subst (λ (bytes : List ℕ). body_at (made_in c.loop-count.found) bytes ≡ Ok step.entry) c.items.ensures step.reads in
    subst (λ (n : ℕ). Makes (bodies_in (take n bodies)) (made_in c.in-Ok.after)) next
    (one_more_made bodies k c.index-bodies-count.result (made_in c.loop-count.found) (made_in c.in-Ok.after) step.entry lt c.index-bodies-count.is c.loop-count.invariant reads step.is)
