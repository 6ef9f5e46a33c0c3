use Rattle.std.proofs.Common.{◌∙◌, ap, sym}
use Rattle.oz_core.specs.declared.event.Event.{Event}
use Rattle.oz_scm_events.proofs.Kept.{kept_seen}
use Rattle.oz_scm_events.proofs.Left.{halted_later}
use Rattle.oz_turn.specs.Seat.{mine_of, seen_of}
use Rattle.oz_turn.specs.Told.{own_entries}
use Rattle.oz_scm_events.proofs.cell.ScmCell+D+Ledger+O+O+R.be_shown.Goals as goal

pub invariant_of-self : goal.invariant_of-self
invariant_of-self g c =
    let O = g.O.Opened in
    let before = c.self.inside.seat in
    let seat = c.show.new.other in
    let its = c.show.ensures in
    let numbered = its.other.1 ∙ c.self.invariant.0.numbered in
    let known = ap (λ n. own_entries (λ (event : Event). event.seat) n (seen_of seat)) (sym numbered) ∙ its.own in (
      record { of_turn = its.other.0 ∙ c.self.invariant.0.of_turn; numbered = numbered; free = its.other_free },
      kept_seen O.opening c.self.inside.scm _ (seen_of before) (mine_of before) (seen_of seat) (mine_of seat) c.self.invariant.1 its.mine known,
      λ coherent stopped.
          halted_later _ O.opening (seen_of before) (mine_of before) (seen_of seat) (mine_of seat) (c.self.invariant.2 coherent stopped) c.self.invariant.1.own its.begins known its.mine,
    )
