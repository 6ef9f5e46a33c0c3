use Rattle.std.proofs.Common.{◌≡◌, ◌+◌, Bool, true, false, ◌||◌, All, List, refl, sym, ap, ◌∙◌, subst, take, get_or}
use Rattle.std.proofs.Math.Bool.{or-false}
use Rattle.std.proofs.lemmas.List.{take_all}
use Rattle.std.proofs.lemmas.List.Elements.{All-more}
use Rattle.std.proofs.lemmas.List.Folds.{list_any_more}
use Rattle.std.specs.List.{list_any}
use Rattle.oz_datanode.specs.Datanode.{State as Datanode, is_halted}
use Rattle.oz_running.specs.disk_run.Reopens.{NodeReopens}
use Rattle.oz_world.specs.Disk.{seen}
use Rattle.oz_running.proofs.disk_run.over.has_halted.Goals as goal
use Rattle.oz_running.proofs.disk_run.over.has_halted.Goals.{then-halted, else-halted}

or_true : (t : Bool) → (t || true) ≡ true
or_true true = refl
or_true false = refl

pub loop-node-preserved : goal.loop-node-preserved
loop-node-preserved g c =
    let D = g.D.Disk in
    let see = (λ (d : g.row.D.Denot). seen (D.told d) (D.clock d) (D.image d) (D.faults d)) in
    let nodes = c.args.nodes.now in
    let at = c.loop-node.node-index in
    let node = c.node-item.result in
    let before = list_any is_halted (take at nodes) in
    let more = list_any_more is_halted nodes at node c.loop-node-test.true in
    let its : is_halted (get_or nodes at node) ≡ c.halted.result = ap (λ (n : Datanode g.row.D.Denot). is_halted n) (sym c.node-item.is) ∙ sym c.halted.ensures.halted in
    let halted : c.if-halted.any ≡ list_any is_halted (take (at + 1) nodes) = elim c.if-halted.branch [
      | then-halted w ↦ w.any-is ∙ (w.if-halted.true ∙ sym (more ∙ (ap (λ (t : Bool). before || t) (its ∙ w.if-halted.true) ∙ or_true before)))
      | else-halted w ↦ w.any-is ∙ (c.loop-node.invariant.halted ∙ sym (more ∙ (ap (λ (t : Bool). before || t) (its ∙ w.if-halted.false) ∙ or-false before)))
    ] in
    let reopens : NodeReopens see node = λ running bytes told. c.halted.ensures.at_rest (c.halted.ensures.halted ∙ running) bytes told in record {
      halted = halted;
      reopen = All-more (NodeReopens see) nodes at node c.loop-node-test.true c.loop-node.invariant.reopen (subst (NodeReopens see) c.node-item.is reopens);
    }

pub returns-clause-reopen : goal.returns-clause-reopen
returns-clause-reopen g c =
    let D = g.D.Disk in
    let see = (λ (d : g.row.D.Denot). seen (D.told d) (D.clock d) (D.image d) (D.faults d)) in
    subst (λ (l : List (Datanode g.row.D.Denot)). All (NodeReopens see) l) (take_all c.loop-node.node-index c.args.nodes.now c.loop-node-test.false) c.loop-node.invariant.reopen
