use Rattle.std.specs.Prelude.{slice_set}
use Rattle.std.proofs.Common.{◌≡◌, [], ◌∷◌, ◌++◌, ap, ◌∙◌, subst}
use Rattle.oz_core.specs.Scm.{is_up}
use Rattle.oz_core.specs.Seats.{scm_seat}
use Rattle.oz_scm_events.specs.Granted.{by_scm}
use Rattle.oz_scm_events.specs.Tracked.{up_event}
use Rattle.oz_scm_events.proofs.Enabled.{up_follows_as}
use Rattle.oz_scm_events.proofs.Kept.{among_ups, kept_seen, kept_tracked, not_before, set_same, so_before, tracked_as}
use Rattle.oz_scm_events.proofs.Left.{halted_later, left_tracked}
use Rattle.oz_world.specs.Disk.{seen}
use Rattle.oz_turn.specs.Seat.{mine_of, number_of, seen_of, IsReady}
use Rattle.oz_scm_events.proofs.readying.ScmCell+D+Ledger+O+O+R.tracked_ready.Goals as goal

pub is_up-requires : goal.is_up-requires
is_up-requires g c = among_ups g.O.Opened.opening c.self.inside.scm _ _ _ c.self.invariant.1 c.args.dn c.requires.there

pub returns-then-is_up-up-clause-own : goal.returns-then-is_up-up-clause-own
returns-then-is_up-up-clause-own g c = (
  subst (λ v. is_up c.args.dn v.mine ≡ c.args.up) c.self.view_is
      (so_before g.O.Opened.opening c.self.inside.scm _ _ _ c.self.invariant.1 c.args.dn c.requires.there c.is_up.result c.args.up c.is_up.ensures c.if-is_up-up.true),
  c.release.ensures.mine ∙ ap (λ v. v.mine) c.self.view_is,
)

pub returns-then-is_up-up-clause-scm : goal.returns-then-is_up-up-clause-scm
returns-then-is_up-up-clause-scm g c =
    let so = so_before g.O.Opened.opening c.self.inside.scm _ _ _ c.self.invariant.1 c.args.dn c.requires.there c.is_up.result c.args.up c.is_up.ensures c.if-is_up-up.true in
    ap (λ v. v.scm) c.self.view_is
    ∙ subst (λ v. v.scm ≡ record v.scm { up = slice_set v.scm.up c.args.dn c.args.up }) c.self.view_is
    (set_same g.O.Opened.opening c.self.inside.scm _ _ _ c.self.invariant.1 c.args.dn c.requires.there c.args.up so)

pub tell-requires-clause-follows : goal.tell-requires-clause-follows
tell-requires-clause-follows g c =
    let O = g.O.Opened in
    let before = c.self.inside.seat in
    let seat = c.args.seat.now in
    let kept = c.self.invariant.1 in
    let other = not_before O.opening c.self.inside.scm _ (seen_of before) (mine_of before) kept c.args.dn c.requires.there c.is_up.result c.args.up c.is_up.ensures c.if-is_up-up.false in
    λ story begins all its same.
    up_follows_as O.coherent O.opening O.bytes O.script c.self.inside.scm _ (seen_of before) (mine_of before) kept c.args.dn c.args.up (number_of seat) (mine_of seat) story c.up_event.result c.up_event.ensures
    c.requires.ready.numbered c.requires.there other c.requires.runs all its same

pub set_up-requires : goal.set_up-requires
set_up-requires g c = among_ups g.O.Opened.opening c.self.inside.scm _ _ _ c.self.invariant.1 c.args.dn c.requires.there

pub invariant_of-self : goal.invariant_of-self
invariant_of-self g c =
    let O = g.O.Opened in
    let before = c.self.inside.seat in
    let seat = c.release.new.seat in
    let its = c.release.ensures in (
      subst (λ t. IsReady t scm_seat seat) c.requires.turn its.ready,
      kept_seen O.opening c.self.inside.scm _ (seen_of before) (mine_of before) (seen_of seat) (mine_of seat) c.self.invariant.1 its.mine its.known,
      λ coherent stopped.
          halted_later _ O.opening (seen_of before) (mine_of before) (seen_of seat) (mine_of seat) (c.self.invariant.2 coherent stopped) c.self.invariant.1.own its.goes_on its.known its.mine,
    )

pub invariant_of-self-2 : goal.invariant_of-self-2
invariant_of-self-2 g c =
    let O = g.O.Opened in
    let before = c.self.inside.seat in
    let seat = c.tell.new.seat in (
      subst (λ t. IsReady t scm_seat seat) c.requires.turn c.tell.ensures.ready,
      kept_tracked O.opening c.self.inside.scm _ (seen_of before) (mine_of before) c.self.invariant.1 c.args.dn c.requires.there c.args.up c.set_up.new.self (seen_of seat) (mine_of seat) _ c.set_up.ensures
          (ap (λ s. g.D.Disk.faults s.disk) c.set_up.ensures) (tracked_as (mine_of before) (mine_of seat) c.args.dn c.args.up c.up_event.result c.up_event.ensures c.tell.ensures.mine) c.tell.ensures.known,
      λ coherent.
          left_tracked (λ d. seen (g.D.Disk.told d) (g.D.Disk.clock d) (g.D.Disk.image d) (g.D.Disk.faults d)) O.opening c.self.inside.scm c.set_up.new.self _
          (seen_of before) (mine_of before) (seen_of seat) (mine_of seat) c.args.dn c.args.up c.set_up.ensures c.self.invariant.1.own c.tell.ensures.goes_on c.tell.ensures.known
          (tracked_as (mine_of before) (mine_of seat) c.args.dn c.args.up c.up_event.result c.up_event.ensures c.tell.ensures.mine)
          (c.self.invariant.2 coherent),
    )

pub returns-clause-own : goal.returns-clause-own
returns-clause-own g c =
    let before = c.self.inside.seat in
    let told = tracked_as (mine_of before) (mine_of c.tell.new.seat) c.args.dn c.args.up c.up_event.result c.up_event.ensures c.tell.ensures.mine in
    let other = not_before g.O.Opened.opening c.self.inside.scm _ _ _ c.self.invariant.1 c.args.dn c.requires.there c.is_up.result c.args.up c.is_up.ensures c.if-is_up-up.false in (
      λ so. other (ap (λ v. is_up c.args.dn v.mine) c.self.view_is ∙ so),
      told ∙ ap (λ l. l ++ by_scm (up_event c.args.dn c.args.up) ∷ []) (ap (λ v. v.mine) c.self.view_is),
    )
