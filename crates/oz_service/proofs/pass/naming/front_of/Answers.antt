use Rattle.std.proofs.Common.{◌≡◌, length, rules}
use Rattle.oz_service.proofs.Fronts.{front_named}
use Rattle.oz_service.proofs.pass.naming.front_of.Goals as goal

pub returns : goal.returns
returns c =
    let count : c.len-count.result ≡ length c.in_ok-named.named.items = search rules in
    front_named c.args.rows.now c.in-Some.volume.now c.in-Some.ensures c.in_ok-volume.volume c.in_ok-named.named.items c.of-rows.result c.len-count.result
    c.in_ok-volume.ensures c.of-rows.ensures count c.in_ok-named.ensures.named c.in_ok-named.ensures.whole
