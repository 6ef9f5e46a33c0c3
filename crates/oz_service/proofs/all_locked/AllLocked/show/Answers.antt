use Rattle.std.proofs.Common.{◌≡◌, List, length, map, sym, ap, ◌∙◌, subst}
use Rattle.std.proofs.lemmas.List.{length-map}
use Rattle.std.specs.Sync.Mutex.{mutex_guard_value}
use Rattle.oz_core.specs.declared.event.Event.{Event}
use Rattle.oz_core.specs.Seats.{scm_seat}
use Rattle.oz_turn.specs.Seat.{seen_of}
use Rattle.oz_turn.specs.Told.{own_entries}
use Rattle.oz_service.specs.AllLocked.{IsShown, node_shown}
use Rattle.oz_service.proofs.InOrder.{order_shown}
use Rattle.oz_service.proofs.all_locked.AllLocked.show.Goals as goal

pub invariant_of-self : goal.invariant_of-self
invariant_of-self g c =
    let all = c.self.inside in
    let old = all.nodes.items in
    let shown = c.show_nodes.ensures in
    let story = seen_of c.be_shown.new.holder in (
      sym (length-map c.show_nodes.new.nodes.items mutex_guard_value) ∙ (ap length shown.same
          ∙ (length-map (map mutex_guard_value old) (node_shown story) ∙ (length-map old mutex_guard_value ∙ c.self.invariant.0))),
      order_shown g.D.Disk g.O.Opened story (map mutex_guard_value c.show_nodes.new.nodes.items) shown.shown,
    )

pub returns-clause-know : goal.returns-clause-know
returns-clause-know g c =
    let its = c.be_shown.ensures in
    let theirs = c.show_nodes.ensures in
    let story = seen_of c.be_shown.new.holder in
    let last = seen_of c.give_back.new.seat in
    let same : story ≡ last = sym (c.give_back.ensures.seen ∙ ap (λ s. s.seen) theirs.share) in
    let old = c.self.inside.nodes.items in
    record {
      scm = its.seen ∙ same;
      of_the_scm = subst (λ (l : List Event). own_entries (λ (event : Event). event.seat) scm_seat l ≡ c.be_shown.new.self.mine) same its.shown;
      count = ap length theirs.same ∙ (length-map (map mutex_guard_value old) (node_shown story) ∙ (length-map old mutex_guard_value ∙ c.self.invariant.0));
      nodes = λ dn cell at. subst (λ (l : List Event). IsShown g.D.Disk g.O.Opened l dn cell) same (theirs.shown dn cell at);
    }
