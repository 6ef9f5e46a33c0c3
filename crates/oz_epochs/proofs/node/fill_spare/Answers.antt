use Rattle.std.proofs.Common.{◌≡◌, ◌+◌, ◌-◌, ◌∷◌, [], ◌++◌, length, Some, sym, ap, ◌∙◌, subst, arith, length-append}
use Rattle.std.specs.List.{slice_get}
use Rattle.oz_epochs.specs.declared.node.Node.TheVariants.{Spare}
use Rattle.oz_epochs.specs.Nodes.{HasSpare}
use Rattle.oz_epochs.proofs.Lists.{slice_get-front}
use Rattle.oz_epochs.proofs.Spares.{spare_pushed}
use Rattle.oz_epochs.proofs.node.fill_spare.Goals as goal

pub loop-slot-preserved : goal.loop-slot-preserved
loop-slot-preserved g c =
    let h = c.loop-slot.invariant in let nodes = c.loop-slot.nodes.items in let here = c.loop-slot.spare_front in let before = c.args.nodes.now.items in
    let pushed = c.push.ensures.items in
    let long = ap length pushed ∙ length-append nodes (Spare here ∷ []) in
    record {
      capacity = c.push.ensures.capacity ∙ h.capacity;
      within = omega (arith, c.loop-slot-test.true, c.capacity-slot-end.ensures, c.push.ensures.capacity, h.capacity);
      filled = omega (arith, h.filled, long);
      more = omega (arith, h.more);
      kept = λ slot n at. subst (λ l. slice_get l slot ≡ Some n) (sym pushed) (slice_get-front nodes (Spare here ∷ []) slot n (h.kept slot n at));
      spare = λ spare has.
          let more = spare_pushed nodes here (spare + (c.loop-slot.slot - length before)) (h.spare spare has) in
          subst (λ l. HasSpare l (Some c.loop-slot.slot) (spare + (c.loop-slot.slot + 1 - length before))) (sym pushed)
          (subst (λ k. HasSpare (nodes ++ Spare here ∷ []) (Some k) (spare + (c.loop-slot.slot + 1 - length before))) h.filled
          (subst (λ k. HasSpare (nodes ++ Spare here ∷ []) (Some (length nodes)) k) (omega (arith, h.more)) more));
    }
