use Rattle.std.proofs.Common.{IfOk, refl, ◌∙◌, subst}
use Rattle.std.proofs.lemmas.Result.{IfOk-weaker}
use Rattle.oz_turn.specs.Seat.{mine_of, number_of, seen_of}
use Rattle.oz_service.specs.Pass.{FoundWork, LooksOn, ServiceView}
use Rattle.oz_service.proofs.Going.{begins_then}
use Rattle.oz_service.proofs.Passing.{found_first}
use Rattle.oz_service.proofs.Waits.{awaits_on, own_of}
use Rattle.oz_service.proofs.pass.asking.Service+Ledger+O+O+R.next_work.Goals as goal

pub invariant_of-self : goal.invariant_of-self
invariant_of-self g c =
    let O = g.O.Opened in
    let before = c.self.inside.seat in
    let between = c.chain_work-work.new.seat in
    let after = c.see.new.seat in
    let its = c.chain_work-work.ensures in
    let shown = c.see.ensures.shown in (
      shown.ready,
      shown.follow,
      c.self.invariant.2,
      λ coherent. awaits_on O.coherent O.opening O.bytes O.script (seen_of before) (seen_of after) (mine_of before) c.self.inside.waiting coherent
          (begins_then (seen_of before) (seen_of between) (seen_of after) its.goes_on shown.goes_on) shown.follow
          (own_of (number_of before) (seen_of before) (mine_of before) c.self.invariant.0.numbered c.knows_own.ensures)
          (own_of (number_of after) (seen_of after) (mine_of before) shown.ready.numbered (c.knows_own-2.ensures ∙ (shown.mine ∙ its.mine)))
          (c.self.invariant.3 coherent),
    )

pub returns-clause-looked : goal.returns-clause-looked
returns-clause-looked g c =
    let before = c.self.inside.seat in
    let between = c.chain_work-work.new.seat in
    let after = c.see.new.seat in
    let its = c.chain_work-work.ensures in
    let shown = c.see.ensures.shown in
    subst (λ (v : ServiceView). LooksOn v (record { seen = seen_of after; mine = mine_of after; waiting = c.self.inside.waiting; purged_to = c.self.inside.purged_to })) c.self.view_is
    (record {
      seen = begins_then (seen_of before) (seen_of between) (seen_of after) its.goes_on shown.goes_on;
      mine = shown.mine ∙ its.mine;
      waiting = refl;
      purged_to = refl;
    })

pub returns-clause-first : goal.returns-clause-first
returns-clause-first g c = λ coherent.
    let O = g.O.Opened in
    let rows = g.L.Loaded.rows in
    let before = c.self.inside.seat in
    let between = c.chain_work-work.new.seat in
    let after = c.see.new.seat in
    subst (λ (v : ServiceView). IfOk c.chain_work-work.result (FoundWork O.opening rows v.seen (seen_of after))) c.self.view_is
    (IfOk-weaker c.chain_work-work.result _ _
    (λ found work. found_first O.opening rows (seen_of before) (seen_of between) (seen_of after) found c.see.ensures.shown.goes_on (work coherent))
    c.chain_work-work.ensures.work)
