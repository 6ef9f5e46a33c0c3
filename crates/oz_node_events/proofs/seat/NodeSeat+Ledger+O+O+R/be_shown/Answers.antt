use Rattle.std.proofs.Common.{List, [], refl, sym, ap, ◌∙◌, subst}
use Rattle.oz_buffer.specs.Buffer.{AllFollow, Follows}
use Rattle.oz_core.specs.declared.event.Event.{Event}
use Rattle.oz_turn.specs.Seat.{mine_of, seen_of}
use Rattle.oz_turn.specs.Told.{own_entries}
use Rattle.oz_node_events.proofs.Seated.{done_on, kept_on, stays_on}
use Rattle.oz_node_events.proofs.seat.NodeSeat+Ledger+O+O+R.be_shown.Goals as goal

pub invariant_of-self : goal.invariant_of-self
invariant_of-self g c =
    let O = g.O.Opened in
    let s = c.self.inside in
    let show = c.show.ensures in
    let seat = c.show.new.other in
    let numbered = show.other.1 ∙ c.self.invariant.0.numbered in
    let known = ap (λ n. own_entries (λ (event : Event). event.seat) n (seen_of seat)) (sym numbered) ∙ show.own in
    let follow = subst (λ (l : List Event). AllFollow (Follows O.coherent O.opening O.bytes O.script) [] l) (sym (show.seen ∙ ap (λ s. s.seen) show.holder_share)) c.requires.follow in (
      record { of_turn = show.other.0 ∙ c.self.invariant.0.of_turn; numbered = numbered; free = show.other_free },
      show.room ∙ c.self.invariant.1,
      kept_on O.coherent O.opening O.bytes O.script s.dn s.room s.last (seen_of s.seat) (mine_of s.seat) c.self.invariant.2 c.self.invariant.3 s.dn refl
          (seen_of seat) show.begins follow (mine_of seat) s.room known show.mine,
      done_on O.coherent O.opening O.bytes O.script s.dn s.room s.last (seen_of s.seat) (mine_of s.seat) c.self.invariant.2 c.self.invariant.3 s.dn refl
          (seen_of seat) show.begins follow (mine_of seat) s.room known show.mine,
      stays_on O.coherent O.opening O.bytes O.script s.dn s.room s.last (seen_of s.seat) (mine_of s.seat) c.self.invariant.2 c.self.invariant.3 s.dn refl
          (seen_of seat) show.begins follow (mine_of seat) s.room known show.mine c.self.invariant.4,
    )
