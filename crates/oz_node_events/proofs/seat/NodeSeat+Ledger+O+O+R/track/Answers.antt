use Rattle.std.specs.Prelude.{Ok}
use Rattle.std.proofs.Common.{refl, sym, ap, ◌∙◌, subst}
use Rattle.oz_scm_events.specs.Tracked.{IsTracked}
use Rattle.oz_turn.specs.Seat.{mine_of, seen_of}
use Rattle.oz_node_events.specs.NodeSeat.{events_of}
use Rattle.oz_node_events.proofs.Noted.{begins_through}
use Rattle.oz_node_events.proofs.Own.{begins_as}
use Rattle.oz_node_events.proofs.Seated.{done_on, kept_on, stays_on}
use Rattle.oz_node_events.proofs.seat.NodeSeat+Ledger+O+O+R.track.Goals as goal

pub returns-clause-goes_on : goal.returns-clause-goes_on
returns-clause-goes_on g c =
    begins_as c.show.new.self.seen (seen_of c.self.inside.seat) c.args.self.now.seen (ap (λ v. v.seen) c.self.view_is)
    (begins_through c.show.new.self.seen (seen_of c.track_ready-changed.new.seat) (seen_of c.self.inside.seat) c.show.ensures.goes_on c.track_ready-changed.ensures.begins)

pub returns-clause-own : goal.returns-clause-own
returns-clause-own g c =
    subst (λ n. IsTracked {E = Unit {0}} n c.args.up c.args.scm.now.mine c.track_ready-changed.new.self.mine (Ok c.track_ready-changed.result)) (ap (λ v. v.dn) c.self.view_is)
    c.track_ready-changed.ensures.own

pub returns-clause-shared : goal.returns-clause-shared
returns-clause-shared g c =
    let place = seen_of c.track_ready-changed.new.seat in
    record {
      place = place;
      since = begins_as place (seen_of c.self.inside.seat) c.args.self.now.seen (ap (λ v. v.seen) c.self.view_is) c.track_ready-changed.ensures.begins;
      within = (c.show.ensures.goes_on.0, c.show.ensures.other_seen ∙ c.show.ensures.goes_on.1);
      its = ap (λ n. events_of n place) (sym (ap (λ v. v.dn) c.self.view_is)) ∙ (c.track_ready-changed.ensures.its_own ∙ sym c.show.ensures.mine);
      of_the_scm = c.track_ready-changed.ensures.shown;
      follow = c.track_ready-changed.ensures.follow;
    }

pub invariant_of-self : goal.invariant_of-self
invariant_of-self g c =
    let O = g.O.Opened in
    let s = c.self.inside in
    let track = c.track_ready-changed.ensures in
    let seat = c.track_ready-changed.new.seat in (
      track.ready,
      track.room ∙ c.self.invariant.1,
      kept_on O.coherent O.opening O.bytes O.script s.dn s.room s.last (seen_of s.seat) (mine_of s.seat) c.self.invariant.2 c.self.invariant.3 s.dn refl
          (seen_of seat) track.begins track.follow (mine_of seat) s.room track.its_own track.mine,
      done_on O.coherent O.opening O.bytes O.script s.dn s.room s.last (seen_of s.seat) (mine_of s.seat) c.self.invariant.2 c.self.invariant.3 s.dn refl
          (seen_of seat) track.begins track.follow (mine_of seat) s.room track.its_own track.mine,
      stays_on O.coherent O.opening O.bytes O.script s.dn s.room s.last (seen_of s.seat) (mine_of s.seat) c.self.invariant.2 c.self.invariant.3 s.dn refl
          (seen_of seat) track.begins track.follow (mine_of seat) s.room track.its_own track.mine c.self.invariant.4,
    )
