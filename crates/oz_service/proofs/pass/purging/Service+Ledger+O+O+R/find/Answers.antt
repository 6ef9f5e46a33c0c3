use Rattle.std.proofs.Common.{refl, ◌∙◌, subst}
use Rattle.oz_turn.specs.Seat.{mine_of, number_of, seen_of}
use Rattle.oz_service.specs.Pass.{LooksOn, ServiceView}
use Rattle.oz_service.proofs.Waits.{awaits_on, own_of}
use Rattle.oz_service.proofs.pass.purging.Service+Ledger+O+O+R.find.Goals as goal

pub invariant_of-self : goal.invariant_of-self
invariant_of-self g c =
    let O = g.O.Opened in
    let before = c.self.inside.seat in
    let after = c.purge_stripe-purged.new.seat in
    let its = c.purge_stripe-purged.ensures in (
      its.ready,
      its.follow,
      c.self.invariant.2,
      λ coherent. awaits_on O.coherent O.opening O.bytes O.script (seen_of before) (seen_of after)
          (mine_of before) c.self.inside.waiting coherent its.goes_on its.follow
          (own_of (number_of before) (seen_of before) (mine_of before) c.self.invariant.0.numbered c.knows_own.ensures)
          (own_of (number_of after) (seen_of after) (mine_of before) its.ready.numbered (c.knows_own-2.ensures ∙ its.mine))
          (c.self.invariant.3 coherent),
    )

pub returns-clause-looked : goal.returns-clause-looked
returns-clause-looked g c =
    let after = c.purge_stripe-purged.new.seat in
    let its = c.purge_stripe-purged.ensures in
    subst (λ (v : ServiceView). LooksOn v (record {
      seen = seen_of after;
      mine = mine_of after;
      waiting = c.self.inside.waiting;
      purged_to =
          c.self.inside.purged_to;
    })) c.self.view_is
    (record { seen = its.goes_on; mine = its.mine; waiting = refl; purged_to = refl })
