use Rattle.std.proofs.Common.{◌≡◌, List, suc, ◌+◌, ◌<◌, ℕ, length, take, drop, sym, subst, arith}
use Rattle.std.specs.Prelude.{MatchBool}
use Rattle.oz_tables.specs.declared.built.body.Step.{Step}
use Rattle.oz_effects.specs.Build.{IsAtFault, NoneAtFault}
use Rattle.oz_tables.specs.built.Steps.{operations_of}
use Rattle.oz_tables.specs.built.laws.Lefts.{none_more, first_found, rest_whole}
use Rattle.oz_tables.proofs.built.needs.first_at_fault.Goals as goal

pub returns-then-branch : goal.returns-then-branch
returns-then-branch c =
    let steps = c.args.steps.now in
    let at = c.loop-at.at in
    let step = c.index-steps-at.result in
    let fault : ℕ → Type 0 = λ k. IsAtFault c.args.tables.now.rows (operations_of steps) (operations_of (drop k steps)) step.operation in
    let lt : at < length steps = omega arith in
    let next : at + 1 ≡ suc at = omega arith in
    let seen : List Step → Type 0 = λ later. IsAtFault c.args.tables.now.rows (operations_of steps) (operations_of later) step.operation in
    let found = subst (λ later. MatchBool c.in_ok-is_at_fault.field-0 (seen later) (seen later → ⊥)) (rest_whole steps (at + 1)) c.in_ok-is_at_fault.ensures in
    let here = subst (λ t. MatchBool t (fault (at + 1)) (fault (at + 1) → ⊥)) c.if-branch.true found in
    first_found c.args.tables.now.rows steps at step lt c.index-steps-at.is c.loop-at.invariant (subst fault next here)

pub loop-at-preserved : goal.loop-at-preserved
loop-at-preserved c =
    let steps = c.args.steps.now in
    let items = operations_of steps in
    let rows = c.args.tables.now.rows in
    let at = c.loop-at.at in
    let step = c.index-steps-at.result in
    let fault : ℕ → Type 0 = λ k. IsAtFault rows items (operations_of (drop k steps)) step.operation in
    let lt : at < length steps = omega arith in
    let next : at + 1 ≡ suc at = omega arith in
    let seen : List Step → Type 0 = λ later. IsAtFault c.args.tables.now.rows (operations_of steps) (operations_of later) step.operation in
    let found = subst (λ later. MatchBool c.in_ok-is_at_fault.field-0 (seen later) (seen later → ⊥)) (rest_whole steps (at + 1)) c.in_ok-is_at_fault.ensures in
    let here = subst (λ t. MatchBool t (fault (at + 1)) (fault (at + 1) → ⊥)) c.if-branch.false found in
    subst (λ (k : ℕ). NoneAtFault rows items (operations_of (take k steps)) (operations_of (drop k steps))) (sym next)
    (none_more rows items steps at step lt c.index-steps-at.is c.loop-at.invariant (subst (λ k. fault k → ⊥) next here))
