use Rattle.std.proofs.Common.{◌+◌, ◌++◌, ◌<◌, List, ap, sym, refl, ◌∙◌, subst}
use Rattle.oz_buffer.specs.Buffer.{Follows}
use Rattle.oz_core.specs.declared.event.Event.{Event}
use Rattle.oz_core.specs.declared.event.EventKind.TheVariants.{Halt}
use Rattle.oz_core.specs.declared.event.Node.TheVariants.{Datanode}
use Rattle.oz_turn.specs.Seat.{mine_of, seen_of}
use Rattle.oz_turn.specs.Told.{BeginsWith}
use Rattle.oz_node_events.specs.Commands.{by_node}
use Rattle.oz_node_events.specs.Doing.{IsToldSo, told_of}
use Rattle.oz_node_events.specs.Led.{HasItDone, HaveLed, done_kind, last_of}
use Rattle.oz_node_events.specs.NodeSeat.{IsKept, SeatView, events_of}
use Rattle.oz_node_events.specs.laws.Lines.{done_later}
use Rattle.oz_node_events.proofs.Outcomes.{done_follows, kept_so, led_so, left_stands, stays_so, told_so}
use Rattle.oz_node_events.proofs.Led.{led_fits}
use Rattle.oz_node_events.proofs.Noted.{begins_through}
use Rattle.oz_node_events.proofs.Own.{begins_as}
use Rattle.oz_node_events.proofs.Wiping.{halt_follows}
use Rattle.oz_node_events.proofs.seat.NodeSeat+Ledger+O+O+R.do_for.Goals as goal

pub do_held-came-requires-clause-follows : goal.do_held-came-requires-clause-follows
do_held-came-requires-clause-follows g c story begins other all own =
    let O = g.O.Opened in
    let D = g.D.Disk in
    let is = c.self.view_is in
    let view = c.args.self.now in
    let done = c.args.done in
    let goes = begins_as story _ _ (ap (λ v. v.seen) is) begins in
    let its = ap (λ n. events_of n story) (sym (ap (λ v. v.dn) is)) ∙ (own ∙ ap (λ v. v.mine) is) in
    subst (λ n. Follows O.coherent O.opening O.bytes O.script story (by_node n (done_kind n done))) (sym (ap (λ v. v.dn) is))
    (done_follows O.coherent O.opening O.bytes O.script O.faults D.told D.clock D.image D.faults view c.args.node.now done c.is_kept.ensures c.requires.stood c.requires.unhalted c.requires.wanted
    story all its
    (λ coherent. led_fits O.coherent O.opening O.bytes O.script view.dn view.last view.seen view.mine (seen_of c.args.other.now) story c.args.line.now done
    (subst (λ (v : SeatView). HaveLed O.script v.dn v.last v.seen v.mine) is (c.self.invariant.3 coherent)) c.requires.behind (c.requires.line coherent) goes other all its coherent))

pub do_held-came-requires-clause-halts : goal.do_held-came-requires-clause-halts
do_held-came-requires-clause-halts g c count some story all own =
    let O = g.O.Opened in
    let D = g.D.Disk in
    let is = c.self.view_is in
    let view = c.args.self.now in
    let its = ap (λ n. events_of n story) (sym (ap (λ v. v.dn) is)) ∙ (own ∙ ap (λ v. v.mine) is) in
    subst (λ n. Follows O.coherent O.opening O.bytes O.script story (by_node n (Halt (Datanode n) count))) (sym (ap (λ v. v.dn) is))
    (halt_follows O.coherent O.opening O.bytes O.script O.faults D.told D.clock D.image D.faults view c.args.node.now count c.is_kept.ensures c.requires.stood c.requires.unhalted some story all its)

pub invariant_of-self : goal.invariant_of-self
invariant_of-self g c =
    let O = g.O.Opened in
    let s = c.self.inside in
    let line = c.args.line.now in
    let done = c.args.done in
    let held = c.do_held-came.ensures in
    let result = c.do_held-came.result in
    let place = seen_of c.do_held-came.new.other in
    let told : List Event = told_of s.dn done result in
    let show = c.show.ensures in
    let seat = c.show.new.seat in
    let is = c.self.view_is in
    let ends : BeginsWith (seen_of seat) (place ++ told) = (show.goes_on.0, show.goes_on.1 ∙ ap (λ l. l ++ show.goes_on.0) held.told) in
    let begins = begins_through (seen_of seat) (place ++ told) (seen_of s.seat) ends (begins_through (place ++ told) place (seen_of s.seat) (told, refl) held.goes_on) in
    let by : O.coherent → HasItDone O.script place s.dn done line = λ coherent. done_later O.script (seen_of c.args.other.now) place s.dn done line held.other_begins
    (subst (λ n. HasItDone O.script (seen_of c.args.other.now) n done line) (sym (ap (λ v. v.dn) is)) (c.requires.line coherent)) in
    let behind = subst (λ l. last_of l line.client < line.number) (sym (ap (λ v. v.last) is)) c.requires.behind in
    let more = show.mine ∙ held.mine in (
      record { of_turn = show.ready.of_turn ∙ c.requires.turn; numbered = show.ready.numbered ∙ ap (λ n. 4 + n) c.from-by.ensures; free = show.ready.free },
      show.room ∙ (held.room ∙ c.self.invariant.1),
      subst (λ l. IsKept O.coherent O.opening O.bytes O.script (record { dn = s.dn; seen = seen_of seat; mine = mine_of seat; room = s.room; last = l })) (sym c.keep_line.ensures)
          (kept_so O.coherent O.opening O.bytes O.script s.dn s.room s.last (seen_of s.seat) (mine_of s.seat) c.self.invariant.2 c.self.invariant.3 c.from-by.result c.from-by.ensures
          (seen_of seat) begins show.follow (mine_of seat) s.room show.known line done result more),
      λ coherent. subst (λ l. HaveLed O.script s.dn l (seen_of seat) (mine_of seat)) (sym c.keep_line.ensures)
          (led_so O.coherent O.opening O.bytes O.script s.dn s.room s.last (seen_of s.seat) (mine_of s.seat) c.self.invariant.2 c.self.invariant.3 c.from-by.result c.from-by.ensures
          (seen_of seat) begins show.follow (mine_of seat) s.room show.known line done c.requires.client behind place held.goes_on by result ends held.was_told more coherent),
      stays_so O.coherent O.opening O.bytes O.script s.dn s.room s.last (seen_of s.seat) (mine_of s.seat) c.self.invariant.2 c.self.invariant.3 c.from-by.result c.from-by.ensures
          (seen_of seat) begins show.follow (mine_of seat) s.room show.known line done result more c.self.invariant.4,
    )

pub returns-clause-stands : goal.returns-clause-stands
returns-clause-stands g c =
    let O = g.O.Opened in
    let D = g.D.Disk in
    let s = c.self.inside in
    let view = c.args.self.now in
    let line = c.args.line.now in
    let done = c.args.done in
    let held = c.do_held-came.ensures in
    let result = c.do_held-came.result in
    let other = seen_of c.args.other.now in
    let place = seen_of c.do_held-came.new.other in
    let told : List Event = told_of s.dn done result in
    let show = c.show.ensures in
    let seat = c.show.new.seat in
    let is = c.self.view_is in
    let ends : BeginsWith (seen_of seat) (place ++ told) = (show.goes_on.0, show.goes_on.1 ∙ ap (λ l. l ++ show.goes_on.0) held.told) in
    let begins = begins_through (seen_of seat) (place ++ told) (seen_of s.seat) ends (begins_through (place ++ told) place (seen_of s.seat) (told, refl) held.goes_on) in
    let more = show.mine ∙ held.mine in
    let later : SeatView = record { dn = s.dn; seen = seen_of seat; mine = mine_of seat; room = s.room; last = c.keep_line.new.last } in
    let kept : IsKept O.coherent O.opening O.bytes O.script later =
    subst (λ l. IsKept O.coherent O.opening O.bytes O.script (record { dn = s.dn; seen = seen_of seat; mine = mine_of seat; room = s.room; last = l })) (sym c.keep_line.ensures)
    (kept_so O.coherent O.opening O.bytes O.script s.dn s.room s.last (seen_of s.seat) (mine_of s.seat) c.self.invariant.2 c.self.invariant.3 c.from-by.result c.from-by.ensures
    (seen_of seat) begins show.follow (mine_of seat) s.room show.known line done result more) in
    left_stands O.coherent O.opening O.bytes O.script O.faults D.told D.clock D.image D.faults view later c.args.node.now c.do_held-came.new.node other c.is_kept.ensures kept c.requires.stood
    (ap (λ v. v.dn) is) done result (begins_as (seen_of seat) (seen_of s.seat) view.seen (ap (λ v. v.seen) is) begins) held.node
    (more ∙ ap (λ v. v.mine ++ told_of v.dn done result) is)
    (subst (λ v. IsToldSo v.dn done v.seen other (seen_of seat) result) is
    (told_so s.dn done (seen_of s.seat) other place (seen_of seat) result held.goes_on held.other_begins ends))
