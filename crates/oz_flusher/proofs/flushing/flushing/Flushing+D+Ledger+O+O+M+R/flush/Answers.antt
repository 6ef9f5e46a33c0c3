use Rattle.std.proofs.Common.{rules, ◌≡◌, None, Ok, sym, ap, ◌∙◌, subst}
use Rattle.oz_core.specs.declared.event.Event.{Event}
use Rattle.oz_core.specs.Seats.{flusher_seat}
use Rattle.oz_flusher.proofs.flushing_lemmas.Kept.{begins_as, goes_on, halt_goes_on, halted_of, kept_halted, kept_ok, no_halt, not_stopped, still}
use Rattle.oz_flusher.proofs.flushing_lemmas.Longer.{kept_longer_as}
use Rattle.oz_flusher.proofs.flushing_lemmas.Own.{own}
use Rattle.oz_turn.specs.Seat.{mine_of, seen_of, IsReady}
use Rattle.oz_turn.specs.Told.{own_entries}
use Rattle.oz_flusher.proofs.flushing.flushing.Flushing+D+Ledger+O+O+M+R.flush.Goals as goal

pub invariant_of-self : goal.invariant_of-self
invariant_of-self g c =
    let O = g.O.Opened in
    let D = g.D.Disk in
    let M = g.M.Mounted in
    let flushed = c.in-Ok.ensures in
    let seat = c.flush_once-ended.new.seat in
    let kept = c.self.invariant.2 in
    let none : c.self.inside.halted ≡ None = search rules in
    let running = not_stopped _ _ _ (sym c.self.invariant.1 ∙ none) kept.halt in
    let known : own (seen_of seat) ≡ mine_of seat = ap (λ n. own_entries (λ (event : Event). event.seat) n (seen_of seat)) (sym flushed.seat.numbered) ∙ c.knows_own.ensures in
    let after = kept_ok O.coherent O.opening O.bodies M.disk _ _ (seen_of seat) (mine_of seat) _ _ _ running kept known
    (λ coherent told hold. flushed.stops coherent told M.disk.clock hold) c.flush_once-ended.new.self.stopped flushed.stopped c.in-Ok.flushed flushed.ends
    (λ is. (let same = flushed.none (ap (λ o. Ok o) is) in (ap (λ s. D.told s.disk) same, ap (λ s. D.clock s.disk) same, ap (λ s. D.faults s.disk) same, still D.clock D.image same)))
    (λ coherent. (flushed.idle.quiet coherent).journal) in (
      subst (λ t. IsReady t flusher_seat seat) c.requires flushed.seat,
      none ∙ sym (no_halt _ _ _ flushed.stopped after.halt),
      after,
    )

pub invariant_of-self-in-Err : goal.invariant_of-self-in-Err
invariant_of-self-in-Err g c =
    let O = g.O.Opened in
    let M = g.M.Mounted in
    let failed = c.in-Err.ensures in
    let seat = c.flush_once-ended.new.seat in
    let found = c.halted_count-count.ensures in
    let last = c.halted_count-count.new.seat in
    let kept = c.self.invariant.2 in
    let none : c.self.inside.halted ≡ None = search rules in
    let running = not_stopped _ _ _ (sym c.self.invariant.1 ∙ none) kept.halt in
    let until = kept_halted O.coherent O.opening O.bodies M.disk _ _ (seen_of seat) (mine_of seat) _ _ _ running kept found.known
    (λ coherent told hold. failed.stops coherent told M.disk.clock hold) c.flush_once-ended.new.self.stopped failed.stopped c.in-Err.field-0 failed.ends in
    let after = kept_longer_as O.coherent O.opening O.bytes O.script O.bodies M.disk _ (seen_of seat) (mine_of seat) (seen_of last) _ (mine_of last) found.mine until found.goes_on found.known_after found.follow in (
      subst (λ t. IsReady t flusher_seat last) c.requires found.ready,
      sym (halted_of (mine_of last) found.count.0 c.halted_count-count.result found.count.1),
      after,
    )

pub returns-in-Ok-clause-goes_on : goal.returns-in-Ok-clause-goes_on
returns-in-Ok-clause-goes_on g c = begins_as _ _ _ (ap (λ v. v.seen) c.self.view_is) (goes_on _ _ _ _ _ _ _ c.in-Ok.flushed c.in-Ok.ensures.ends)

pub returns-in-Err-clause-goes_on : goal.returns-in-Err-clause-goes_on
returns-in-Err-clause-goes_on g c = begins_as _ _ _ (ap (λ v. v.seen) c.self.view_is) (halt_goes_on _ _ _ _ _ _ _ _ c.in-Err.field-0 c.in-Err.ensures.ends c.halted_count-count.ensures.goes_on)
