use Rattle.std.proofs.Common.{IsTrue, inl, List, sym, subst, rules}
use Rattle.std.specs.List.{AllByRecursion}
use Rattle.oz_reclaim.proofs.Removing.{not_below, rise_last}
use Rattle.oz_rows.specs.Counts.{AllRise}
use Rattle.oz_rows.specs.declared.key.RowKey.{RowKey}
use Rattle.oz_rows.specs.RowMaps.{IsBelow}
use Rattle.oz_reclaim.proofs.purging.put_key.Goals as goal

pub returns-then-rises_to-clause-rise : goal.returns-then-rises_to-clause-rise
returns-then-rises_to-clause-rise c = λ yes.
    let so : IsTrue c.rises_to.result = search rules in
    let told = subst (λ (l : List RowKey). AllRise l × AllByRecursion (λ other. IsBelow other c.args.key) l) c.deref.ensures.value (c.rises_to.ensures so) in
    subst AllRise (sym c.in_ok-push.ensures.items) (rise_last c.args.keys.now.items c.args.key told.0 told.1)

pub returns-then-rises_to-clause-put : goal.returns-then-rises_to-clause-put
returns-then-rises_to-clause-put c =
    let so : IsTrue c.rises_to.result = search rules in
    let told = subst (λ (l : List RowKey). AllRise l × AllByRecursion (λ other. IsBelow other c.args.key) l) c.deref.ensures.value (c.rises_to.ensures so) in
    inl (c.in_ok-push.ensures.items, not_below c.args.keys.now.items c.args.key told.1)
