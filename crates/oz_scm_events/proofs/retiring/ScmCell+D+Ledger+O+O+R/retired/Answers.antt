use Rattle.std.proofs.Common.{refl, ◌≤◌, length, sym, ap, ◌∙◌, subst}
use Rattle.oz_core.specs.declared.event.EventKind.TheVariants.{Retire}
use Rattle.oz_core.specs.Seats.{scm_seat}
use Rattle.oz_scm.specs.declared.grants.entry.Entry.TheVariants.{Retired}
use Rattle.oz_core.specs.Scm.{acknowledgers}
use Rattle.oz_scm.specs.Noting.{Notes}
use Rattle.oz_scm_events.specs.Granted.{with_told}
use Rattle.oz_scm_events.proofs.Kept.{begins_as, begins_then, kept_seen}
use Rattle.oz_scm_events.proofs.Left.{halted_later}
use Rattle.oz_scm_events.proofs.Notes.{acknowledged_by_three, halted_noted, if_ok, kept_noted, may_retire_it, note_follows, same_note, says_noted}
use Rattle.oz_world.specs.Disk.{seen}
use Rattle.oz_turn.specs.Seat.{mine_of, number_of, seen_of, IsReady}
use Rattle.oz_scm_events.proofs.retiring.ScmCell+D+Ledger+O+O+R.retired.Goals as goal

pub tell-requires-clause-follows : goal.tell-requires-clause-follows
tell-requires-clause-follows g c =
    let O = g.O.Opened in
    let own = c.reserve.ensures in
    let before = c.reserve.new.seat in
    let running = sym c.stopped.ensures.stopped ∙ c.if-stopped.false in
    let kept = kept_seen O.opening c.self.inside.scm _ _ _ (seen_of before) (mine_of before) c.self.invariant.1 own.mine own.known in
    let may =
    may_retire_it O.coherent O.opening O.bytes O.script c.self.inside.scm _ (seen_of before) (mine_of before) kept running (seen_of c.args.seat.now) c.args.txn (sym c.may_retire.ensures ∙ c.if-not-may_retire.false) in
    note_follows O.coherent O.opening O.bytes O.script c.self.inside.scm _ (seen_of before) (mine_of before) kept running (seen_of c.args.seat.now) (Retire c.args.txn) (Retired c.args.txn) may
    c.retire-noted.new.self _ _ (number_of c.args.seat.now) (mine_of c.args.seat.now) c.retire-noted.result c.seat_answer-answer.result c.told_of_note-told.result
    c.told_of_note-told.ensures c.seat_answer-answer.ensures c.retire-noted.ensures

pub invariant_of-self : goal.invariant_of-self
invariant_of-self g c =
    let O = g.O.Opened in
    let before = c.self.inside.seat in
    let seat = c.reserve.new.seat in
    let its = c.reserve.ensures in (
      subst (λ t. IsReady t scm_seat seat) c.requires.turn its.ready,
      kept_seen O.opening c.self.inside.scm _ (seen_of before) (mine_of before) (seen_of seat) (mine_of seat) c.self.invariant.1 its.mine its.known,
      λ coherent stopped.
          halted_later _ O.opening (seen_of before) (mine_of before) (seen_of seat) (mine_of seat) (c.self.invariant.2 coherent stopped) c.self.invariant.1.own its.goes_on its.known its.mine,
    )

pub invariant_of-self-2 : goal.invariant_of-self-2
invariant_of-self-2 g c =
    let O = g.O.Opened in
    let own = c.reserve.ensures in
    let before = c.reserve.new.seat in
    let seat = c.tell.new.seat in
    let running = sym c.stopped.ensures.stopped ∙ c.if-stopped.false in
    let kept = kept_seen O.opening c.self.inside.scm _ _ _ (seen_of before) (mine_of before) c.self.invariant.1 own.mine own.known in
    let may =
    may_retire_it O.coherent O.opening O.bytes O.script c.self.inside.scm _ (seen_of before) (mine_of before) kept running (seen_of c.args.seat.now) c.args.txn (sym c.may_retire.ensures ∙ c.if-not-may_retire.false) in (
      subst (λ t. IsReady t scm_seat seat) c.requires.turn c.tell.ensures.ready,
      kept_noted O.coherent O.opening O.bytes O.script c.self.inside.scm _ (seen_of before) (mine_of before) kept running (seen_of c.args.seat.now) (Retire c.args.txn) (Retired c.args.txn) may
          c.retire-noted.new.self _ _ (seen_of seat) (mine_of seat) c.retire-noted.result c.seat_answer-answer.result c.seat_answer-answer.ensures c.retire-noted.ensures refl
          (c.tell.ensures.mine ∙ ap (λ o. with_told o (mine_of before)) c.told_of_note-told.ensures) c.tell.ensures.known,
      halted_noted O.coherent O.opening O.bytes O.script c.self.inside.scm _ (seen_of before) (mine_of before) kept running (seen_of c.args.seat.now) (Retire c.args.txn) (Retired c.args.txn) may
          c.retire-noted.new.self _ _ (number_of c.args.seat.now) (mine_of c.args.seat.now) (seen_of seat) c.retire-noted.result c.seat_answer-answer.result c.told_of_note-told.result
          c.told_of_note-told.ensures c.seat_answer-answer.ensures c.retire-noted.ensures c.tell.ensures.told,
    )

pub returns-clause-refused : goal.returns-clause-refused
returns-clause-refused g c =
    let O = g.O.Opened in
    let own = c.reserve.ensures in
    let before = c.reserve.new.seat in
    let seat = c.tell.new.seat in
    let running = sym c.stopped.ensures.stopped ∙ c.if-stopped.false in
    let kept = kept_seen O.opening c.self.inside.scm _ _ _ (seen_of before) (mine_of before) c.self.invariant.1 own.mine own.known in
    let may =
    may_retire_it O.coherent O.opening O.bytes O.script c.self.inside.scm _ (seen_of before) (mine_of before) kept running (seen_of c.args.seat.now) c.args.txn (sym c.may_retire.ensures ∙ c.if-not-may_retire.false) in
    let after =
    kept_noted O.coherent O.opening O.bytes O.script c.self.inside.scm _ (seen_of before) (mine_of before) kept running (seen_of c.args.seat.now) (Retire c.args.txn) (Retired c.args.txn) may
    c.retire-noted.new.self _ _ (seen_of seat) (mine_of seat) c.retire-noted.result c.seat_answer-answer.result c.seat_answer-answer.ensures c.retire-noted.ensures refl
    (c.tell.ensures.mine ∙ ap (λ o. with_told o (mine_of before)) c.told_of_note-told.ensures) c.tell.ensures.known in
    says_noted O.opening c.self.inside.scm c.retire-noted.new.self (Retired c.args.txn) _ _ (seen_of seat) (mine_of seat) after _ c.retire-noted.result c.seat_answer-answer.result
    c.seat_answer-answer.ensures c.retire-noted.ensures

pub returns-clause-notes : goal.returns-clause-notes
returns-clause-notes g c answer is running =
    let new = c.retire-noted.new.self in
    let after = seen (g.D.Disk.told new.disk) (g.D.Disk.clock new.disk) (g.D.Disk.image new.disk) (g.D.Disk.faults new.disk) in
    let same = same_note c.retire-noted.result answer c.seat_answer-answer.result c.seat_answer-answer.ensures is in
    subst (λ v. Notes (Retired c.args.txn) v.scm new (seen (g.D.Disk.told v.scm.disk) (g.D.Disk.clock v.scm.disk) (g.D.Disk.image v.scm.disk) (g.D.Disk.faults v.scm.disk)) after answer)
    c.self.view_is
    (subst (λ answer. Notes (Retired c.args.txn) c.self.inside.scm new
    (seen (g.D.Disk.told c.self.inside.scm.disk) (g.D.Disk.clock c.self.inside.scm.disk) (g.D.Disk.image c.self.inside.scm.disk) (g.D.Disk.faults c.self.inside.scm.disk)) after answer) same
    c.retire-noted.ensures)

pub returns-clause-goes_on : goal.returns-clause-goes_on
returns-clause-goes_on g c =
    begins_as _ _ _ (ap (λ v. v.seen) c.self.view_is)
    (begins_then (seen_of c.reserve.new.seat) (seen_of c.tell.new.seat) (seen_of c.self.inside.seat) c.tell.ensures.goes_on c.reserve.ensures.goes_on)

pub returns-clause-by_three : goal.returns-clause-by_three
returns-clause-by_three g c =
    let O = g.O.Opened in
    let seat = c.self.inside.seat in
    let running = sym c.stopped.ensures.stopped ∙ c.if-stopped.false in
    if_ok _ _ (subst (λ l. 3 ≤ length (acknowledgers O.opening l c.args.txn)) (ap (λ v. v.mine) c.self.view_is)
    (acknowledged_by_three O.coherent O.opening O.bytes O.script c.self.inside.scm _ (seen_of seat) (mine_of seat) c.self.invariant.1 running (seen_of c.args.seat.now) c.args.txn
    (sym c.may_retire.ensures ∙ c.if-not-may_retire.false)))
