use Rattle.std.proofs.Common.{◌<◌, ◌≤◌, List, length, get_or, refl, sym, ◌∙◌, ap, subst}
use Rattle.std.proofs.lemmas.List.{take_all}
use Rattle.std.specs.List.{All}
use Rattle.oz_core.specs.declared.opening.Unretired.{Unretired}
use Rattle.oz_node_law.specs.Words.{IsApplied}
use Rattle.oz_node_law.proofs.Found.{false-true}
use Rattle.oz_node_law.proofs.Applied.{here, nowhere, not_yet}
use Rattle.oz_node_law.proofs.deletes.was_applied.Goals as goal

pub returns-then-is_applied : goal.returns-then-is_applied
returns-then-is_applied c =
    let P = λ (unretired : Unretired). IsApplied c.args.opening.now c.args.story.now c.args.dn c.args.number c.args.locals.now unretired.txn in
    let i = c.loop-unretired.unretired-index in
    let all = c.args.opening.now.unretired in
    let x = c.unretired-item.result in (
      λ h. here P all i x (subst (λ (us : List Unretired). i < length us) c.items-unretired-items.ensures c.loop-unretired-test.true) (c.unretired-item.is ∙ ap (λ (us : List Unretired). get_or us i x) c.items-unretired-items.ensures) (c.is_applied.ensures.0 c.if-is_applied.true),
      λ a. refl,
    )

pub loop-unretired-preserved : goal.loop-unretired-preserved
loop-unretired-preserved c =
    let P = λ (unretired : Unretired). IsApplied c.args.opening.now c.args.story.now c.args.dn c.args.number c.args.locals.now unretired.txn in
    let i = c.loop-unretired.unretired-index in
    let all = c.args.opening.now.unretired in
    let x = c.unretired-item.result in
    not_yet P all i x (subst (λ (us : List Unretired). i < length us) c.items-unretired-items.ensures c.loop-unretired-test.true) (c.unretired-item.is ∙ ap (λ (us : List Unretired). get_or us i x) c.items-unretired-items.ensures)
    (λ so. false-true (sym c.if-is_applied.false ∙ c.is_applied.ensures.1 so)) c.loop-unretired.invariant

pub returns : goal.returns
returns c =
    let P = λ (unretired : Unretired). IsApplied c.args.opening.now c.args.story.now c.args.dn c.args.number c.args.locals.now unretired.txn in
    let all = c.args.opening.now.unretired in (
      λ h. false-true h,
      λ a. absurd (nowhere P all (subst (λ (us : List Unretired). All (λ (u : Unretired). ¬ P u) us) (take_all c.loop-unretired.unretired-index all (subst (λ (us : List Unretired). length us ≤ c.loop-unretired.unretired-index) c.items-unretired-items.ensures c.loop-unretired-test.false)) c.loop-unretired.invariant) a),
    )
