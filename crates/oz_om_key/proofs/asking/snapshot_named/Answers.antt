use Rattle.std.proofs.Common.{◌≡◌, ◌∙◌, ap, rules, subst}
use Rattle.oz_rows.specs.declared.key.RowKey.TheVariants as keys
use Rattle.oz_rows.specs.Counts.{AreKeys}
use Rattle.oz_om_key.specs.Places.{first_named}
use Rattle.oz_decision.specs.laws.Between.{next}
use Rattle.oz_decision.specs.laws.Snapshots.{no_first_snapshot}
use Rattle.oz_om_key.proofs.Snapshots.{asked}
use Rattle.oz_om_key.proofs.asking.snapshot_named.Goals as goal

pub returns : goal.returns
returns g c = λ namespace stand.
    let all = g.M.RowMap.rows c.args.rows.now in
    let v = c.args.volume.now in
    let b = c.args.bucket.now in
    let ks = c.in_ok-found.found.items in
    let from_is : c.in_ok-from.from ≡ keys.Snapshot v b 0 = search rules in
    let to_is : c.in_ok-to.to ≡ keys.Snapshot v (next b) 0 = search rules in
    let are = c.in_ok-found.ensures (ap all from_is ∙ no_first_snapshot all v b stand.fit) in
    let here : AreKeys all (keys.Snapshot v b 0) (keys.Snapshot v (next b) 0) ks = subst (λ q. AreKeys all (keys.Snapshot v b 0) q ks) to_is (subst (λ q. AreKeys all q c.in_ok-to.to ks) from_is are) in
    let is : c.named_among.result ≡ first_named all ks c.args.name.now = c.named_among.ensures ∙ ap (λ l. first_named all l c.args.name.now) c.deref.ensures.value in
    asked all v b c.args.name.now namespace stand ks here c.named_among.result is
