use Rattle.std.proofs.Common.{◌≡◌, ℕ, suc, ◌+◌, ◌-◌, ◌<◌, List, length, take, sym, ◌∙◌, subst, arith}
use Rattle.oz_journal.specs.Body.{bodies_in}
use Rattle.oz_entries.specs.Build.{IsDamagedBody, Makes}
use Rattle.oz_entries.specs.Held.{node_of}
use Rattle.oz_entries.specs.Node.{empty_node}
use Rattle.oz_entries.specs.Steps.{Follows, IfLeft, fault_in}
use Rattle.oz_entries.specs.laws.Nodes.{same_node}
use Rattle.oz_entries.specs.laws.Journals.{none_made, one_more_made, damaged_here}
use Rattle.oz_entries.proofs.building.build.Goals as goal

pub loop-count-init : goal.loop-count-init
loop-count-init c = none_made _ (same_node empty_node _ c.in-Ok.ensures)

pub returns-in-Err-clause-damaged : goal.returns-in-Err-clause-damaged
returns-in-Err-clause-damaged c = λ body at is.
    let before = node_of c.loop-count.held in
    let item = c.index-bodies-count.result in
    let lt : c.loop-count.count < length c.args.bodies.now = omega arith in
    let damaged = subst (λ (bytes : List ℕ). IfLeft (λ left. IsDamagedBody before bytes (length bytes - left)) c.in-Err.fault) c.items-bytes.ensures c.in-Err.ensures.damaged in
    let told = subst (λ (bytes : List ℕ). c.fault_of.result ≡ fault_in c.loop-count.count bytes c.in-Err.fault) c.items-bytes.ensures c.fault_of.ensures in
    damaged_here c.args.bodies.now c.loop-count.count item before c.in-Err.fault lt c.index-bodies-count.is c.loop-count.invariant damaged body at (sym told ∙ is)

pub loop-count-preserved : goal.loop-count-preserved
loop-count-preserved c =
    let lt : c.loop-count.count < length c.args.bodies.now = omega arith in
    let next : suc c.loop-count.count ≡ c.loop-count.count + 1 = omega arith in
    subst (λ (k : ℕ). Makes (bodies_in (take k c.args.bodies.now)) (node_of c.follow.new.held)) next
    (one_more_made c.args.bodies.now c.loop-count.count c.index-bodies-count.result (node_of c.loop-count.held) (node_of c.follow.new.held) lt c.index-bodies-count.is c.loop-count.invariant
    (subst (λ (bytes : List ℕ). Follows (node_of c.loop-count.held) bytes (node_of c.follow.new.held)) c.items-bytes.ensures c.in_default-follow.ensures.follows))
