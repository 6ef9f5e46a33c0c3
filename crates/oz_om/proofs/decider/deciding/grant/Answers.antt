use Rattle.std.proofs.Common.{sym, ◌∙◌, refl}
use Rattle.oz_cache.specs.Cache.{newest}
use Rattle.oz_om.proofs.decider_lemmas.Choice.{is_grant}
use Rattle.oz_om.proofs.decider_lemmas.Made.{of_grant}
use Rattle.oz_om.proofs.decider.deciding.grant.Goals as goal

pub decide_allocate-requires-clause-family : goal.decide_allocate-requires-clause-family
decide_allocate-requires-clause-family c = is_grant c.args.request.now c.requires.granting

pub returns-in-Some-clause-decision : goal.returns-in-Some-clause-decision
returns-in-Some-clause-decision c =
    let it = c.in_ok-decision.ensures in
    of_grant (newest c.args.cached.now) c.args.request.now c.in-Some.decision c.args.pick c.requires.granting
    (rw c.in-Some.is at it.meets) (rw c.in-Some.is at it.but_renames) (rw c.in-Some.is at it.picked) (rw c.in-Some.is at it.safe)
    (rw c.in-Some.is at it.exact) (rw c.in-Some.is at it.operations) (rw c.in-Some.is at it.recorded) (rw c.in-Some.is at it.size)

pub returns-in-Some-clause-no_block : goal.returns-in-Some-clause-no_block
returns-in-Some-clause-no_block c namespace stand = (
  (λ e. absurd (cc)),
  λ wants. absurd (cc (sym ((c.in_ok-decision.ensures.none namespace stand).1 (wants.1, wants.2)) ∙ c.in-Some.is)),
)

pub returns-in-None-clause-no_block : goal.returns-in-None-clause-no_block
returns-in-None-clause-no_block c namespace stand =
    let why = (c.in_ok-decision.ensures.none namespace stand).0 c.in-None.is in
    ((λ e. (is_grant c.args.request.now c.requires.granting, why.0, why.1)), λ wants. refl)
