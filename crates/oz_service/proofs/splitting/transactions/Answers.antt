use Rattle.std.proofs.Common.{◌≡◌, ◌<◌, ℕ, All, sym, subst}
use Rattle.oz_dellog.specs.declared.txn.Txn.{Txn}
use Rattle.oz_service.specs.Splitting.{locals_in, named_in}
use Rattle.oz_service.proofs.Named.{all_below, whole_now, whole_then}
use Rattle.oz_service.proofs.splitting.transactions.Goals as goal

pub loop-container-preserved : goal.loop-container-preserved
loop-container-preserved c =
    let kept = c.loop-container.invariant in
    let found = c.in-Some.ensures in
    let next = sym c.in-Some-checked_add.ensures.1 in
    let txns = c.add_of.new.txns.items in record {
      in_order = c.in_ok-add_of.ensures.in_order;
      below = subst (λ (n : ℕ). All (λ (txn : Txn). txn.container < n) txns) next
          (all_below _ _ _ _ _ found.found found.passed kept.below c.in_ok-add_of.ensures.added);
      whole = subst (λ (n : ℕ). (container : ℕ) → container < n → named_in container txns ≡ locals_in container c.args.blocks.now) next
          (whole_now _ _ _ _ _ found.found found.passed kept.below c.in_ok-add_of.ensures.added kept.whole);
    }

pub returns : goal.returns
returns c =
    let kept = c.loop-container.invariant in record {
      in_order = kept.in_order;
      whole = whole_then _ _ _ c.in_default.ensures.passed kept.below kept.whole;
    }
