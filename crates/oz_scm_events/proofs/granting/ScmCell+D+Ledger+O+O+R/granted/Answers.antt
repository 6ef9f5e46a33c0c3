use Rattle.std.specs.Prelude.{IsSome}
use Rattle.std.specs.FinMap.{get}
use Rattle.std.proofs.Common.{sym, ap, ◌∙◌, subst}
use Rattle.oz_core.specs.Scm.{containers}
use Rattle.oz_core.specs.declared.event.Node.TheVariants.{Scm as ScmNode}
use Rattle.oz_core.specs.Seats.{scm_seat}
use Rattle.oz_scm_events.specs.Kept.{IsKept}
use Rattle.oz_scm_events.specs.Granted.{with_told}
use Rattle.oz_scm_events.proofs.Enabled.{halted_granted, told_follows_as}
use Rattle.oz_scm_events.proofs.Kept.{begins_as, begins_then, kept_seen, kept_told, says}
use Rattle.oz_scm_events.proofs.Left.{left_same}
use Rattle.oz_world.specs.Disk.{seen}
use Rattle.oz_turn.specs.Seat.{mine_of, number_of, seen_of, IsReady}
use Rattle.oz_scm_events.proofs.granting.ScmCell+D+Ledger+O+O+R.granted.Goals as goal

pub tell-requires-clause-follows : goal.tell-requires-clause-follows
tell-requires-clause-follows g c =
    let O = g.O.Opened in
    let own = c.reserve.ensures in
    let before = c.reserve.new.seat in
    let given = own.mine ∙ ap (λ v. v.mine) c.self.view_is in
    let kept = kept_seen O.opening c.self.inside.scm _ _ _ (seen_of before) (mine_of before) c.self.invariant.1 own.mine own.known in
    told_follows_as O.coherent O.opening O.bytes O.script c.self.inside.scm _ (seen_of before) (mine_of before) kept c.grant-answer.new.self c.args.stripe c.args.exclude.now _ _
    (number_of c.args.seat.now) (seen_of c.args.seat.now) (mine_of c.args.seat.now) c.grant-answer.result c.told_of-told.result c.told_of-told.ensures
    (sym c.stopped.ensures.stopped ∙ c.if-stopped.false) c.grant-answer.ensures
    (λ coherent story begins all its same. c.requires.needed coherent story begins all its (same ∙ given))
    (λ coherent number among. subst (λ l. IsSome (get (containers O.opening l) number)) (sym given) (c.requires.made coherent number among))

pub invariant_of-self : goal.invariant_of-self
invariant_of-self g c =
    let O = g.O.Opened in
    let old = c.self.inside.scm in
    let new = c.grant.new.self in
    let seat = c.self.inside.seat in
    let same = c.grant.ensures.still (sym c.stopped.ensures.stopped ∙ c.if-stopped.true) in (
      c.self.invariant.0,
      subst (λ s. IsKept O.opening (O.faults ScmNode) s (g.D.Disk.faults s.disk) (seen_of seat) (mine_of seat)) (sym same) c.self.invariant.1,
      λ coherent.
          left_same (λ d. seen (g.D.Disk.told d) (g.D.Disk.clock d) (g.D.Disk.image d) (g.D.Disk.faults d)) O.opening old new (seen_of seat) same (c.self.invariant.2 coherent),
    )

pub invariant_of-self-2 : goal.invariant_of-self-2
invariant_of-self-2 g c =
    let O = g.O.Opened in
    let own = c.reserve.ensures in
    let before = c.reserve.new.seat in
    let given = own.mine ∙ ap (λ v. v.mine) c.self.view_is in
    let seat = c.tell.new.seat in
    let kept = kept_seen O.opening c.self.inside.scm _ _ _ (seen_of before) (mine_of before) c.self.invariant.1 own.mine own.known in (
      subst (λ t. IsReady t scm_seat seat) c.requires.turn c.tell.ensures.ready,
      kept_told O.opening c.self.inside.scm c.grant-answer.new.self c.args.stripe c.args.exclude.now _ _ (seen_of before) (mine_of before) (seen_of seat) (mine_of seat) kept
          (sym c.stopped.ensures.stopped ∙ c.if-stopped.false) c.grant-answer.result c.grant-answer.ensures
          (c.tell.ensures.mine ∙ ap (λ o. with_told o (mine_of before)) c.told_of-told.ensures) c.tell.ensures.known,
      halted_granted O.coherent O.opening O.bytes O.script c.self.inside.scm _ (seen_of before) (mine_of before) kept c.grant-answer.new.self c.args.stripe c.args.exclude.now _ _
          (number_of c.args.seat.now) (seen_of c.args.seat.now) (mine_of c.args.seat.now) (seen_of seat) c.grant-answer.result c.told_of-told.result c.told_of-told.ensures
          (sym c.stopped.ensures.stopped ∙ c.if-stopped.false) c.grant-answer.ensures
          (λ coherent story begins all its same. c.requires.needed coherent story begins all its (same ∙ given))
          (λ coherent number among. subst (λ l. IsSome (get (containers O.opening l) number)) (sym given) (c.requires.made coherent number among))
          c.tell.ensures.told,
    )

pub returns-clause-refused : goal.returns-clause-refused
returns-clause-refused g c =
    let O = g.O.Opened in
    let own = c.reserve.ensures in
    let before = c.reserve.new.seat in
    let seat = c.tell.new.seat in
    let kept = kept_seen O.opening c.self.inside.scm _ _ _ (seen_of before) (mine_of before) c.self.invariant.1 own.mine own.known in
    let after =
    kept_told O.opening c.self.inside.scm c.grant-answer.new.self c.args.stripe c.args.exclude.now _ _ (seen_of before) (mine_of before) (seen_of seat) (mine_of seat) kept
    (sym c.stopped.ensures.stopped ∙ c.if-stopped.false) c.grant-answer.result c.grant-answer.ensures
    (c.tell.ensures.mine ∙ ap (λ o. with_told o (mine_of before)) c.told_of-told.ensures) c.tell.ensures.known in
    says O.opening c.self.inside.scm c.grant-answer.new.self c.args.stripe c.args.exclude.now _ _ (seen_of seat) (mine_of seat) after c.grant-answer.result c.grant-answer.ensures

pub returns-clause-goes_on : goal.returns-clause-goes_on
returns-clause-goes_on g c =
    begins_as _ _ _ (ap (λ v. v.seen) c.self.view_is)
    (begins_then (seen_of c.reserve.new.seat) (seen_of c.tell.new.seat) (seen_of c.self.inside.seat) c.tell.ensures.goes_on c.reserve.ensures.goes_on)
