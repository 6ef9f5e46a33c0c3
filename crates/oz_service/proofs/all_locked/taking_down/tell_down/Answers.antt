use Rattle.std.proofs.Common.{false, Ok, ap, ◌∙◌, subst}
use Rattle.oz_core.specs.Nodes.{is_running}
use Rattle.oz_scm_events.specs.Tracked.{IsTracked}
use Rattle.oz_service.proofs.Downs.{same_but_seen}
use Rattle.oz_service.proofs.all_locked.taking_down.tell_down.Goals as goal

pub track-requires-clause-runs : goal.track-requires-clause-runs
track-requires-clause-runs g c =
    ap (λ k. is_running k c.show.new.self.mine) c.show.ensures.number ∙ (ap (is_running c.args.kept.now.dn) c.show.ensures.mine ∙ c.requires.still)

pub returns-in_err-ready-clause-seen : goal.returns-in_err-ready-clause-seen
returns-in_err-ready-clause-seen g c =
    let show = c.show.ensures in
    same_but_seen c.args.kept.now c.show.new.self show.number show.mine show.room show.last

pub returns-clause-seen : goal.returns-clause-seen
returns-clause-seen g c =
    let show = c.show.ensures in
    let track = c.track.ensures in
    same_but_seen c.args.kept.now c.track.new.self (track.number ∙ show.number) (track.mine ∙ show.mine) (track.room ∙ show.room) (track.last ∙ show.last)

pub returns-clause-told : goal.returns-clause-told
returns-clause-told g c = (
  c.track.result,
  subst (λ k. IsTracked {E = Unit {0}} k false c.args.scm.now.mine c.track.new.scm.mine (Ok c.track.result)) c.show.ensures.number
      (subst (λ l. IsTracked {E = Unit {0}} c.show.new.self.dn false l c.track.new.scm.mine (Ok c.track.result)) c.ready.ensures.same.1 c.track.ensures.own),
)
