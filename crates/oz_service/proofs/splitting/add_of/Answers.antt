use Rattle.std.proofs.Common.{◌≡◌, ◌≢◌, ◌++◌, ◌∙◌, [], length, min, sym, subst, refl, arith}
use Rattle.oz_dellog.specs.declared.txn.TheConstants.{MOST_LOCALS}
use Rattle.std.proofs.Common.{length-append}
use Rattle.std.proofs.lemmas.Grind.{common_steps}
use Rattle.std.proofs.lemmas.List.{take-append-drop}
use Rattle.oz_scm.specs.grants.Log.{IsLocalCount}
use Rattle.oz_service.specs.Splitting.{AreInOrder}
use Rattle.oz_service.proofs.Splits.{all_before, pushed, split_more}
use Rattle.oz_service.proofs.splitting.add_of.Goals as goal

pub loop-rest-preserved : goal.loop-rest-preserved
loop-rest-preserved c =
    let now = c.loop-rest.txns.items in
    let rest = c.loop-rest.rest.now in
    let part = c.split_at.result.0.now in
    let later = c.split_at.result.1.now in
    let kept = c.loop-rest.invariant in
    let added = c.in_ok-add_one.ensures in
    let some : rest ≢ [] = λ none. grind (arith, common_steps) in
    let parts : rest ≡ part ++ later = sym ((λ i. c.split_at.ensures.front i ++ c.split_at.ensures.back i) ∙ take-append-drop _ rest) in
    let count : length part ≡ min (length rest) MOST_LOCALS = grind (arith, common_steps) in
    let full : later ≢ [] → length part ≡ MOST_LOCALS = λ left. grind (arith, common_steps, length-append) in
    let counted : IsLocalCount part = record { some = grind (arith, common_steps); few = grind (arith, common_steps) } in
    record {
      split = split_more c.args.container _ rest part later c.args.txns.now.items now c.add_one.new.txns.items _ kept.split added refl refl parts full some;
      in_order = subst (AreInOrder c.args.last) (sym added) (pushed c.args.last now _ kept.in_order refl
          (all_before c.args.container _ rest part later c.args.txns.now.items now c.add_one.new.txns.items _ kept.split added refl refl parts c.requires.above some) counted);
    }
