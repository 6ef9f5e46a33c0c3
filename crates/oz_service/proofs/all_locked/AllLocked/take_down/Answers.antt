use Rattle.std.proofs.Common.{map, sym, ap, ◌∙◌}
use Rattle.std.proofs.lemmas.List.{length-map}
use Rattle.std.proofs.lemmas.Slice.Zip.{AllZip-long}
use Rattle.std.specs.Sync.Mutex.{mutex_guard_value}
use Rattle.oz_service.specs.TakenDown.{HasSeenMore}
use Rattle.oz_service.proofs.Downs.{order_seen, took_before}
use Rattle.oz_service.proofs.all_locked.AllLocked.take_down.Goals as goal

pub invariant_of-self : goal.invariant_of-self
invariant_of-self g c =
    let old = c.self.inside.nodes.items in
    let new = c.take_down_nodes.new.nodes.items in
    let olds = map mutex_guard_value old in
    let news = map mutex_guard_value new in
    let seen = c.take_down_nodes.ensures.only.nodes in (
      sym (length-map new mutex_guard_value) ∙ (AllZip-long HasSeenMore olds news seen ∙ (length-map old mutex_guard_value ∙ c.self.invariant.0)),
      order_seen olds news c.self.invariant.1 seen,
    )

pub returns-clause-only : goal.returns-clause-only
returns-clause-only g c = took_before c.deref_mut.ensures.value c.self.view_is c.take_down_nodes.ensures.only
