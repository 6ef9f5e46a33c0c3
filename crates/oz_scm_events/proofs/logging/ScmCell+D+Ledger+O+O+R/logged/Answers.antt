use Rattle.oz_buffer.specs.Buffer.{IsNote}
use Rattle.std.proofs.Common.{Option, IfSome, refl, sym, ap, ◌∙◌, subst}
use Rattle.oz_core.specs.declared.event.EventKind.{EventKind}
use Rattle.oz_core.specs.Seats.{scm_seat}
use Rattle.oz_scm.specs.declared.grants.entry.Entry.TheVariants.{Logged}
use Rattle.oz_scm.specs.Noting.{Notes}
use Rattle.oz_scm_events.specs.Granted.{with_told}
use Rattle.oz_scm_events.specs.Logged.{log_event}
use Rattle.oz_scm_events.specs.Noted.{told_of_note}
use Rattle.oz_scm_events.proofs.Kept.{begins_as, begins_then, kept_seen}
use Rattle.oz_scm_events.proofs.Left.{halted_later}
use Rattle.oz_scm_events.proofs.Notes.{halted_noted, kept_noted, may_log_it, may_log_of, note_follows, note_is_note, noted_at, same_note, says_noted}
use Rattle.oz_world.specs.Disk.{seen}
use Rattle.oz_turn.specs.Seat.{mine_of, number_of, seen_of, IsReady}
use Rattle.oz_scm_events.proofs.logging.ScmCell+D+Ledger+O+O+R.logged.Goals as goal

pub tell-requires-clause-follows : goal.tell-requires-clause-follows
tell-requires-clause-follows g c =
    let O = g.O.Opened in
    let own = c.reserve.ensures in
    let before = c.reserve.new.seat in
    let running = sym c.stopped.ensures.stopped ∙ c.if-stopped.false in
    let kept = kept_seen O.opening c.self.inside.scm _ _ _ (seen_of before) (mine_of before) c.self.invariant.1 own.mine own.known in
    let may =
    may_log_it O.coherent O.opening O.bytes O.script c.self.inside.scm _ (seen_of before) (mine_of before) kept running (seen_of c.args.seat.now) c.args.txn.now (sym c.may_log.ensures ∙ c.if-not-may_log.false) c.requires.purged in
    note_follows O.coherent O.opening O.bytes O.script c.self.inside.scm _ (seen_of before) (mine_of before) kept running (seen_of c.args.seat.now) (log_event c.args.txn.now) (Logged c.args.txn.now) may
    c.log_txn-logged.new.self _ _ (number_of c.args.seat.now) (mine_of c.args.seat.now) c.in-Some.noted c.seat_answer-answer.result c.told_of_note-told.result
    (c.told_of_note-told.ensures ∙ ap (λ (k : EventKind). told_of_note k c.seat_answer-answer.result) c.in_ok-kind.ensures) c.seat_answer-answer.ensures (noted_at c.args.txn.now c.self.inside.scm c.log_txn-logged.new.self _ _ c.log_txn-logged.result c.log_txn-logged.ensures c.in-Some.noted c.in-Some.ensures)

pub invariant_of-self : goal.invariant_of-self
invariant_of-self g c =
    let O = g.O.Opened in
    let before = c.self.inside.seat in
    let seat = c.reserve.new.seat in
    let its = c.reserve.ensures in (
      subst (λ t. IsReady t scm_seat seat) c.requires.turn its.ready,
      kept_seen O.opening c.self.inside.scm _ (seen_of before) (mine_of before) (seen_of seat) (mine_of seat) c.self.invariant.1 its.mine its.known,
      λ coherent stopped.
          halted_later _ O.opening (seen_of before) (mine_of before) (seen_of seat) (mine_of seat) (c.self.invariant.2 coherent stopped) c.self.invariant.1.own its.goes_on its.known its.mine,
    )

pub invariant_of-self-2 : goal.invariant_of-self-2
invariant_of-self-2 g c =
    let O = g.O.Opened in
    let own = c.reserve.ensures in
    let before = c.reserve.new.seat in
    let seat = c.tell.new.seat in
    let running = sym c.stopped.ensures.stopped ∙ c.if-stopped.false in
    let kept = kept_seen O.opening c.self.inside.scm _ _ _ (seen_of before) (mine_of before) c.self.invariant.1 own.mine own.known in
    let may =
    may_log_it O.coherent O.opening O.bytes O.script c.self.inside.scm _ (seen_of before) (mine_of before) kept running (seen_of c.args.seat.now) c.args.txn.now (sym c.may_log.ensures ∙ c.if-not-may_log.false) c.requires.purged in (
      subst (λ t. IsReady t scm_seat seat) c.requires.turn c.tell.ensures.ready,
      kept_noted O.coherent O.opening O.bytes O.script c.self.inside.scm _ (seen_of before) (mine_of before) kept running (seen_of c.args.seat.now) (log_event c.args.txn.now) (Logged c.args.txn.now) may
          c.log_txn-logged.new.self _ _ (seen_of seat) (mine_of seat) c.in-Some.noted c.seat_answer-answer.result c.seat_answer-answer.ensures (noted_at c.args.txn.now c.self.inside.scm c.log_txn-logged.new.self _ _ c.log_txn-logged.result c.log_txn-logged.ensures c.in-Some.noted c.in-Some.ensures) refl
          (c.tell.ensures.mine ∙ ap (λ o. with_told o (mine_of before)) (c.told_of_note-told.ensures ∙ ap (λ (k : EventKind). told_of_note k c.seat_answer-answer.result) c.in_ok-kind.ensures)) c.tell.ensures.known,
      halted_noted O.coherent O.opening O.bytes O.script c.self.inside.scm _ (seen_of before) (mine_of before) kept running (seen_of c.args.seat.now) (log_event c.args.txn.now) (Logged c.args.txn.now) may
          c.log_txn-logged.new.self _ _ (number_of c.args.seat.now) (mine_of c.args.seat.now) (seen_of seat) c.in-Some.noted c.seat_answer-answer.result c.told_of_note-told.result
          (c.told_of_note-told.ensures ∙ ap (λ (k : EventKind). told_of_note k c.seat_answer-answer.result) c.in_ok-kind.ensures) c.seat_answer-answer.ensures (noted_at c.args.txn.now c.self.inside.scm c.log_txn-logged.new.self _ _ c.log_txn-logged.result c.log_txn-logged.ensures c.in-Some.noted c.in-Some.ensures) c.tell.ensures.told,
    )

pub returns-clause-refused : goal.returns-clause-refused
returns-clause-refused g c =
    let O = g.O.Opened in
    let own = c.reserve.ensures in
    let before = c.reserve.new.seat in
    let seat = c.tell.new.seat in
    let running = sym c.stopped.ensures.stopped ∙ c.if-stopped.false in
    let kept = kept_seen O.opening c.self.inside.scm _ _ _ (seen_of before) (mine_of before) c.self.invariant.1 own.mine own.known in
    let may =
    may_log_it O.coherent O.opening O.bytes O.script c.self.inside.scm _ (seen_of before) (mine_of before) kept running (seen_of c.args.seat.now) c.args.txn.now (sym c.may_log.ensures ∙ c.if-not-may_log.false) c.requires.purged in
    let after =
    kept_noted O.coherent O.opening O.bytes O.script c.self.inside.scm _ (seen_of before) (mine_of before) kept running (seen_of c.args.seat.now) (log_event c.args.txn.now) (Logged c.args.txn.now) may
    c.log_txn-logged.new.self _ _ (seen_of seat) (mine_of seat) c.in-Some.noted c.seat_answer-answer.result c.seat_answer-answer.ensures (noted_at c.args.txn.now c.self.inside.scm c.log_txn-logged.new.self _ _ c.log_txn-logged.result c.log_txn-logged.ensures c.in-Some.noted c.in-Some.ensures) refl
    (c.tell.ensures.mine ∙ ap (λ o. with_told o (mine_of before)) (c.told_of_note-told.ensures ∙ ap (λ (k : EventKind). told_of_note k c.seat_answer-answer.result) c.in_ok-kind.ensures)) c.tell.ensures.known in
    says_noted O.opening c.self.inside.scm c.log_txn-logged.new.self (Logged c.args.txn.now) _ _ (seen_of seat) (mine_of seat) after _ c.in-Some.noted c.seat_answer-answer.result
    c.seat_answer-answer.ensures (noted_at c.args.txn.now c.self.inside.scm c.log_txn-logged.new.self _ _ c.log_txn-logged.result c.log_txn-logged.ensures c.in-Some.noted c.in-Some.ensures)

pub returns-clause-notes : goal.returns-clause-notes
returns-clause-notes g c answer is running =
    let new = c.log_txn-logged.new.self in
    let after = seen (g.D.Disk.told new.disk) (g.D.Disk.clock new.disk) (g.D.Disk.image new.disk) (g.D.Disk.faults new.disk) in
    let same = same_note c.in-Some.noted answer c.seat_answer-answer.result c.seat_answer-answer.ensures is in
    subst (λ v. Notes (Logged c.args.txn.now) v.scm new (seen (g.D.Disk.told v.scm.disk) (g.D.Disk.clock v.scm.disk) (g.D.Disk.image v.scm.disk) (g.D.Disk.faults v.scm.disk)) after answer)
    c.self.view_is
    (subst (λ answer. Notes (Logged c.args.txn.now) c.self.inside.scm new
    (seen (g.D.Disk.told c.self.inside.scm.disk) (g.D.Disk.clock c.self.inside.scm.disk) (g.D.Disk.image c.self.inside.scm.disk) (g.D.Disk.faults c.self.inside.scm.disk)) after answer) same
    (noted_at c.args.txn.now c.self.inside.scm c.log_txn-logged.new.self _ _ c.log_txn-logged.result c.log_txn-logged.ensures c.in-Some.noted c.in-Some.ensures))

pub returns-clause-goes_on : goal.returns-clause-goes_on
returns-clause-goes_on g c =
    begins_as _ _ _ (ap (λ v. v.seen) c.self.view_is)
    (begins_then (seen_of c.reserve.new.seat) (seen_of c.tell.new.seat) (seen_of c.self.inside.seat) c.tell.ensures.goes_on c.reserve.ensures.goes_on)

pub tell-requires-clause-kind : goal.tell-requires-clause-kind
tell-requires-clause-kind g c =
    let told = c.told_of_note-told.ensures ∙ ap (λ (k : EventKind). told_of_note k c.seat_answer-answer.result) c.in_ok-kind.ensures in
    subst (λ (o : Option EventKind). IfSome o IsNote) (sym told) (note_is_note (log_event c.args.txn.now) c.seat_answer-answer.result tt)

pub log_txn-logged-requires : goal.log_txn-logged-requires
log_txn-logged-requires g c = may_log_of c.self.inside.scm.made c.args.txn.now (sym c.may_log.ensures ∙ c.if-not-may_log.false)

pub returns-in_default-clause-goes_on : goal.returns-in_default-clause-goes_on
returns-in_default-clause-goes_on g c =
    begins_as _ _ _ (ap (λ v. v.seen) c.self.view_is)
    (begins_then (seen_of c.reserve.new.seat) (seen_of c.release.new.seat) (seen_of c.self.inside.seat) c.release.ensures.goes_on c.reserve.ensures.goes_on)
