use Rattle.std.proofs.Common.{ℕ, ◌+◌, ◌≤◌, List, subst, sym, ◌∙◌, refl}
use Rattle.std.proofs.lemmas.Bool.{ltb-false}
use Rattle.oz_scm.specs.grants.Due.{IsChosen}
use Rattle.oz_nodes.specs.Pipelines.{IsFirstFree}
use Rattle.oz_scm.proofs.Granting.{due_follows}
use Rattle.oz_scm.proofs.choosing.due.Goals as goal

pub returns-clause-due : goal.returns-clause-due
returns-clause-due c =
    let enough : c.next_id-first.result + 64 ≤ 4611686018427387904 = ltb-false _ _ (sym c.are_ids_spent.ensures ∙ c.if-are_ids_spent.false) in
    record {
      on = subst (λ (l : List ℕ). IsFirstFree c.args.nodes.now l c.args.stripe c.in-Some.pipeline) c.items.ensures c.in-Some.ensures.first;
      chosen = subst (λ (l : List ℕ). IsChosen c.args.containers.now.made.containers c.in-Some.pipeline l c.choose-container.result) c.items-2.ensures c.choose-container.ensures;
      next = c.next_id-first.ensures;
      whole = refl;
      within = enough;
    }

pub returns-clause-next : goal.returns-clause-next
returns-clause-next c =
    let enough : c.next_id-first.result + 64 ≤ 4611686018427387904 = ltb-false _ _ (sym c.are_ids_spent.ensures ∙ c.if-are_ids_spent.false) in
    due_follows c.args.containers.now.made c.args.nodes.now c.args.stripe c.args.exclude.now (record { container = c.choose-container.result; pipeline = c.in-Some.pipeline; first = c.next_id-first.result; count = 64 }) (record {
      on = subst (λ (l : List ℕ). IsFirstFree c.args.nodes.now l c.args.stripe c.in-Some.pipeline) c.items.ensures c.in-Some.ensures.first;
      chosen = subst (λ (l : List ℕ). IsChosen c.args.containers.now.made.containers c.in-Some.pipeline l c.choose-container.result) c.items-2.ensures c.choose-container.ensures;
      next = c.next_id-first.ensures;
      whole = refl;
      within = enough;
    }) c.requires
