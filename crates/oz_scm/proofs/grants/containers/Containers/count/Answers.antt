use Rattle.std.proofs.Common.{◌<◌, List, length, ap, refl, arith}
use Rattle.oz_scm.specs.declared.grants.container.Container.{Container}
use Rattle.oz_scm.proofs.Counting.{counted_more}
use Rattle.oz_scm.proofs.grants.containers.Containers.count.Goals as goal

pub loop-at-preserved : goal.loop-at-preserved
loop-at-preserved c =
    let l = c.self.inside.list.items in
    let k = c.loop-at.at in
    let lt : k < length l = omega (arith, c.deref-container-items.ensures.len, ap (λ (l : List Container). length l) c.deref-container-items.ensures.value) in
    rw (← c.self.view_is) (counted_more c.args.state l _ k _ _ c.loop-at.count c.and_one_in-count.result c.deref-container-items.ensures.value lt refl c.and_one_in-count.ensures (rw (← c.self.view_is) at c.loop-at.invariant))
