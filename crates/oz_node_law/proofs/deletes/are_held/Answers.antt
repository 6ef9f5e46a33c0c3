use Rattle.std.proofs.Common.{◌≡◌, ℕ, Bool, true, get_or, ◌+◌, sym, ◌∙◌, ap, subst}
use Rattle.oz_core.specs.Nodes.{holds}
use Rattle.oz_node_law.proofs.Found.{false-true}
use Rattle.oz_node_law.proofs.Applied.{IsSoFar, passed, passed_over, next_is}
use Rattle.oz_node_law.proofs.deletes.are_held.Goals as goal
use Rattle.oz_node_law.proofs.deletes.are_held.Goals.{then-holds+else-not-has_at, else-holds}

pub returns-then-not-has_at : goal.returns-then-not-has_at
returns-then-not-has_at c =
    let p : ℕ → Bool = λ (local : ℕ). holds c.args.opening.now c.args.story.now c.args.dn (record { container = c.args.container; local = local }) in
    let item : ℕ = get_or c.args.all.now c.loop-local.local-index 0 in
    let hit : p item ≡ true = ap (λ (n : ℕ). holds c.args.opening.now c.args.story.now n (record { container = c.args.container; local = item })) (sym c.from.ensures) ∙ (sym c.holds.ensures ∙ c.if-holds.true) in (
      λ h. false-true h,
      λ are. false-true (sym c.if-not-has_at.true ∙ c.has_at.ensures.1 (next_is p c.args.all.now c.args.locals.now c.loop-local.local-index c.loop-local.next c.loop-local.invariant c.loop-local-test.true hit are)),
    )

pub loop-local-preserved : goal.loop-local-preserved
loop-local-preserved c =
    let p : ℕ → Bool = λ (local : ℕ). holds c.args.opening.now c.args.story.now c.args.dn (record { container = c.args.container; local = local }) in
    let item : ℕ = get_or c.args.all.now c.loop-local.local-index 0 in
    let kept : c.holds.result ≡ p item = c.holds.ensures ∙ ap (λ (n : ℕ). holds c.args.opening.now c.args.story.now n (record { container = c.args.container; local = item })) c.from.ensures in
    let all = c.args.all.now in
    let locals = c.args.locals.now in
    let i = c.loop-local.local-index in
    elim c.if-holds.branch [
      | then-holds+else-not-has_at w ↦
          let has = w.has_at.ensures.0 w.if-not-has_at.false in
          subst (λ (n : ℕ). IsSoFar p all locals (i + 1) n) (sym w.next-is) (passed p all locals i c.loop-local.next c.loop-local.invariant c.loop-local-test.true (sym kept ∙ w.if-holds.true) has.0 has.1)
      | else-holds w ↦ subst (λ (n : ℕ). IsSoFar p all locals (i + 1) n) (sym w.next-is) (passed_over p all locals i c.loop-local.next c.loop-local.invariant c.loop-local-test.true (sym kept ∙ w.if-holds.false))
    ]
