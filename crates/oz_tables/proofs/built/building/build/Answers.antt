use Rattle.std.proofs.Common.{◌≡◌, ℕ, suc, ◌+◌, ◌-◌, ◌<◌, List, length, sym, ◌∙◌, subst, arith}
use Rattle.oz_effects.specs.Build.{IsDamagedBody}
use Rattle.oz_tables.specs.built.Steps.{Follows, IfLeft, fault_in}
use Rattle.oz_tables.proofs.built_lemmas.Journals.{BuiltSoFar, none_so_far, one_more_built, damaged_here}
use Rattle.oz_tables.proofs.built.building.build.Goals as goal

pub loop-count-init : goal.loop-count-init
loop-count-init c = none_so_far c.args.bodies.now c.new-tables.result c.new-tables.ensures.rows c.new-tables.ensures.last_index

pub returns-in-Err-clause-damaged : goal.returns-in-Err-clause-damaged
returns-in-Err-clause-damaged c = λ body at is.
    let before = c.loop-count.tables in
    let item = c.index-bodies-count.result in
    let lt : c.loop-count.count < length c.args.bodies.now = omega arith in
    let damaged = subst (λ (bytes : List ℕ). IfLeft (λ left. IsDamagedBody c.loop-count.head before.rows bytes (length bytes - left)) c.in-Err.fault) c.items-bytes.ensures c.in-Err.ensures.damaged in
    let told = subst (λ (bytes : List ℕ). c.fault_of.result ≡ fault_in c.loop-count.count bytes c.in-Err.fault) c.items-bytes.ensures c.fault_of.ensures in
    damaged_here c.args.bodies.now c.loop-count.count item before c.loop-count.head c.in-Err.fault lt c.index-bodies-count.is c.loop-count.invariant damaged body at (sym told ∙ is)

pub loop-count-preserved : goal.loop-count-preserved
loop-count-preserved c =
    let lt : c.loop-count.count < length c.args.bodies.now = omega arith in
    let next : suc c.loop-count.count ≡ c.loop-count.count + 1 = omega arith in
    subst (λ (k : ℕ). BuiltSoFar c.args.bodies.now k c.follow.new.tables c.in-Ok.head) next
    (one_more_built c.args.bodies.now c.loop-count.count c.index-bodies-count.result c.loop-count.tables c.follow.new.tables c.loop-count.head c.in-Ok.head lt c.index-bodies-count.is c.loop-count.invariant
    (subst (λ (bytes : List ℕ). Follows c.loop-count.head c.loop-count.tables bytes c.follow.new.tables c.in-Ok.head) c.items-bytes.ensures c.in-Ok.ensures.follows))
