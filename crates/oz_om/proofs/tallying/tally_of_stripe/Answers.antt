use Rattle.std.proofs.Common.{◌≡◌, sym, ◌∙◌, subst}
use Rattle.oz_cache.specs.Cache.{CacheView, newest}
use Rattle.oz_core.specs.Manager.{namespace_of}
use Rattle.oz_decision.specs.Meets.{Stand}
use Rattle.oz_decision.specs.laws.OneRow.{stand_but_renames}
use Rattle.oz_namespace.specs.declared.namespace.Namespace.{Namespace}
use Rattle.oz_sound.specs.Sound.{IsSoundButRenames}
use Rattle.oz_store.specs.striped.Shares.{share_of}
use Rattle.oz_om.specs.Tallies.{tally_of}
use Rattle.oz_om.proofs.Tallied.{share_tally, through_ok}
use Rattle.oz_om.proofs.tallying.tally_of_stripe.Goals as goal

pub returns : goal.returns
returns g c =
    let s = c.args.stripe.now in
    let v = c.args.volume.now in
    let whole = namespace_of g.O.Opened.opening s.seen in
    through_ok
    (λ tally. (namespace : Namespace) → Stand IsSoundButRenames (newest c.cached.result.now) namespace → tally ≡ tally_of namespace v)
    (λ tally. g.O.Opened.coherent → tally ≡ tally_of whole v)
    c.tally_in_rows.result
    (λ tally is coherent.
    let keeps = (c.requires.opens.keeps s.number s.mine s.seen (newest s.cache)).0 c.requires.rests.keeps in
    let stand = stand_but_renames (newest s.cache) (share_of s.number whole) (keeps.stands coherent).stand in
    is (share_of s.number whole)
    (subst (λ (cache : CacheView). Stand IsSoundButRenames (newest cache) (share_of s.number whole)) (sym c.cached.ensures) stand)
    ∙ share_tally s.number whole v c.requires.its)
    c.tally_in_rows.ensures
