use Rattle.std.proofs.Common.{◌≡◌, ◌<◌, ◌-◌, ◌^◌, ℕ, All}
use Rattle.oz_dellog.specs.declared.txn.Txn.{Txn}
use Rattle.oz_service.specs.Splitting.{AreInOrder, locals_in, named_in}
use Rattle.oz_service.proofs.splitting.transactions.Given as goal

abbrev pub invariant-loop-container : goal.invariant-loop-container
invariant-loop-container l = record {
  in_order : AreInOrder l.last l.txns.items;
  below : All (λ (txn : Txn). txn.container < l.least) l.txns.items;
  whole : (container : ℕ) → container < l.least → named_in container l.txns.items ≡ locals_in container l.blocks;
}

abbrev pub decreases-loop-container : goal.decreases-loop-container
decreases-loop-container l = 2 ^ 64 - l.least
