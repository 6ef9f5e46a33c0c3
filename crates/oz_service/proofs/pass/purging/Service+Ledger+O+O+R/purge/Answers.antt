use Rattle.std.proofs.Common.{◌≡◌, ◌≤◌, List, All, length, rules, sym, subst}
use Rattle.oz_core.specs.Law.{IsPurged}
use Rattle.oz_om.specs.Purging.{DeletedRow, blocks_of_all}
use Rattle.oz_service.specs.Purges.{AreLogged, MayBeNamed, WasPurged}
use Rattle.oz_service.proofs.Finding.{blocks_purged, no_rows, rows_may_go, stripe_purged}
use Rattle.oz_service.proofs.pass.purging.Service+Ledger+O+O+R.purge.Goals as goal

pub returns-then-is_empty-clause-idle : goal.returns-then-is_empty-clause-idle
returns-then-is_empty-clause-idle g c = λ is.
    let none : length c.in-Ok.purged.rows.items ≡ 0 = search rules in
    no_rows g.O.Opened.coherent g.O.Opened.opening g.L.Loaded.rows c.args.stripe c.args.self.now.seen c.find.new.self.seen c.in-Ok.purged
    c.in-Ok.ensures.purged none

pub log-requires : goal.log-requires
log-requires g c =
    let some : 1 ≤ length c.in-Ok.purged.rows.items = search rules in
    let seen = c.find.new.self.seen in
    subst (λ (l : List DeletedRow). All (IsPurged seen) (blocks_of_all l)) (sym c.as_slice.ensures.value)
    (blocks_purged g.O.Opened.coherent g.O.Opened.opening g.L.Loaded.rows c.args.stripe c.args.self.now.seen seen c.in-Ok.purged c.in-Ok.ensures.purged some)

pub purge_rows-requires-clause-may : goal.purge_rows-requires-clause-may
purge_rows-requires-clause-may g c = λ coherent.
    let some : 1 ≤ length c.in-Ok.purged.rows.items = search rules in
    let seen = c.log.new.self.seen in
    subst (All (MayBeNamed seen)) (sym c.as_slice-2.ensures.value)
    (rows_may_go g.O.Opened.coherent g.O.Opened.opening g.L.Loaded.rows c.args.stripe c.args.self.now.seen c.find.new.self.seen c.in-Ok.purged
    c.in-Ok.ensures.purged some
    seen c.in_default.ensures.looked.seen
    (subst (λ (l : List DeletedRow). AreLogged seen (blocks_of_all l)) c.as_slice.ensures.value c.in_default.ensures.logged) coherent)

pub returns-in-Ok-purge_rows-clause-purged : goal.returns-in-Ok-purge_rows-clause-purged
returns-in-Ok-purge_rows-clause-purged g c = λ is.
    let some : 1 ≤ length c.in-Ok.purged.rows.items = search rules in
    let opening = g.O.Opened.opening in
    let second = c.log.new.self.seen in
    let third = c.purge_rows.new.self.seen in
    let most = c.purge_rows.new.self.purged_to in
    stripe_purged g.O.Opened.coherent opening g.L.Loaded.rows c.args.stripe c.args.self.now.seen c.find.new.self.seen c.in-Ok.purged c.in-Ok.ensures.purged some
    second third most c.in_default.ensures.looked.seen c.in-Ok-purge_rows.ensures.goes_on.seen
    (subst (λ (l : List DeletedRow). AreLogged second (blocks_of_all l)) c.as_slice.ensures.value c.in_default.ensures.logged)
    (λ coherent. subst (All (WasPurged opening second third most)) c.as_slice-2.ensures.value (c.in-Ok-purge_rows.ensures.purged coherent))
