use Rattle.std.proofs.Common.{◌≡◌, List, IfOk, filter_map, ap, subst, ◌∙◌}
use Rattle.oz_dellog.specs.declared.txn.Txn.{Txn}
use Rattle.oz_dellog.specs.Log.{pending}
use Rattle.oz_dellog.specs.Index.{pending_at}
use Rattle.oz_dellog.proofs.Sound.{is_told}
use Rattle.oz_dellog.proofs.log.DelLog.pending.Goals as goal

pub returns : goal.returns
returns c =
    subst (λ (found : List Txn). IfOk c.pending_txns.result (λ txns. txns.items ≡ found))
    (ap (filter_map (pending_at c.self.inside.unretired c.args.dn)) c.numbers_of-numbers.ensures
    ∙ is_told c.self.inside.last c.args.container c.args.dn c.self.inside.unretired c.self.inside.index c.self.invariant
    ∙ ap (λ log. pending log c.args.container c.args.dn) c.self.view_is)
    c.pending_txns.ensures
