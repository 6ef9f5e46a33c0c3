use Rattle.std.proofs.Common.{ap, ◌+◌, ◌-◌, ◌≡◌, ◌∷◌, [], ◌++◌, sym, ◌∙◌, subst, arith}
use Rattle.oz_buffer.specs.Buffer.{Follows}
use Rattle.oz_core.specs.declared.event.Event.{Event}
use Rattle.oz_turn.specs.Seat.{mine_of, seen_of}
use Rattle.oz_node_events.specs.NodeSeat.{PutsUntold, events_of}
use Rattle.oz_node_events.proofs.Noted.{begins_through}
use Rattle.oz_node_events.proofs.Own.{begins_as}
use Rattle.oz_node_events.proofs.Seated.{kept_more, noted_more, seen_behind, stays_more}
use Rattle.oz_node_events.proofs.seat.NodeSeat+Ledger+O+O+R.note.Goals as goal

pub append-requires-clause-follows : goal.append-requires-clause-follows
append-requires-clause-follows g c story begins other all own =
    let O = g.O.Opened in
    let view = c.self.view_is in
    let dn : c.from-by.result ≡ c.args.self.now.dn = c.from-by.ensures ∙ ap (λ v. v.dn) view in
    subst (λ n. Follows O.coherent O.opening O.bytes O.script story (record { seat = 4 + n; kind = c.args.kind })) (sym dn)
    (c.requires.follows story (begins_as story _ _ (ap (λ v. v.seen) view) begins) other all
    (ap (λ n. events_of n story) (sym dn) ∙ (own ∙ ap (λ v. v.mine) view)))

pub invariant_of-self : goal.invariant_of-self
invariant_of-self g c =
    let O = g.O.Opened in
    let s = c.self.inside in
    let told = c.append.ensures in
    let show = c.show.ensures in
    let seat = c.show.new.seat in
    let event : Event = record { seat = 4 + c.from-by.result; kind = c.args.kind } in
    let begins = begins_through (seen_of seat) (seen_of c.append.new.seat) (seen_of s.seat) show.goes_on (seen_behind event (seen_of s.seat) (seen_of c.args.other.now) (seen_of c.append.new.seat) told.told) in
    let more = show.mine ∙ (told.mine ∙ ap (λ n. mine_of s.seat ++ record { seat = 4 + n; kind = c.args.kind } ∷ []) c.from-by.ensures) in (
      record { of_turn = show.ready.of_turn ∙ c.requires.turn; numbered = show.ready.numbered ∙ ap (λ n. 4 + n) c.from-by.ensures; free = show.ready.free },
      omega (arith, show.room, told.room, c.self.invariant.1),
      kept_more O.coherent O.opening O.bytes O.script s.dn s.room s.last (seen_of s.seat) (mine_of s.seat) c.self.invariant.2 c.self.invariant.3 c.from-by.result c.from-by.ensures
          (seen_of seat) begins show.follow (mine_of seat) (s.room - 1) show.known c.args.kind c.requires.no_bad more s.last,
      noted_more O.coherent O.opening O.bytes O.script s.dn s.room s.last (seen_of s.seat) (mine_of s.seat) c.self.invariant.2 c.self.invariant.3 c.from-by.result c.from-by.ensures
          (seen_of seat) begins show.follow (mine_of seat) (s.room - 1) show.known c.args.kind c.requires.no_bad more c.requires.uncommanded,
      stays_more O.coherent O.opening O.bytes O.script s.dn s.room s.last (seen_of s.seat) (mine_of s.seat) c.self.invariant.2 c.self.invariant.3 c.from-by.result c.from-by.ensures
          (seen_of seat) begins show.follow (mine_of seat) (s.room - 1) show.known c.args.kind c.requires.no_bad more
          (subst (PutsUntold c.args.kind) (sym (ap (λ v. v.seen) c.self.view_is)) c.requires.untold) c.self.invariant.4,
    )
