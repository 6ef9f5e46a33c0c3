use Rattle.std.proofs.Common.{subst}
use Rattle.oz_core.specs.declared.event.EventKind.TheVariants.{AckDel, Retire}
use Rattle.oz_core.specs.declared.event.Node.TheVariants.{Scm}
use Rattle.oz_dellog.specs.Log.{is_done}
use Rattle.oz_scm.specs.grants.Made.{log_of, may_ack}
use Rattle.oz_core.specs.Seats.{scm_seat}
use Rattle.oz_turn.specs.Seat.{seen_of}
use Rattle.oz_turn.specs.Told.{BeginsWith, own_entries}
use Rattle.oz_service.proofs.Sent.{noted_so, own_begins}
use Rattle.oz_service.proofs.deleting.noted.note_locked.Goals as goal

pub returns-clause-noted : goal.returns-clause-noted
returns-clause-noted g c =
    let O = g.O.Opened in
    let D = g.D.Disk in
    let first = c.args.scm.now in
    let second = c.ack-acknowledged.new.self in
    let third = c.retire-retired.new.self in
    let acked = c.ack-acknowledged.ensures in
    let retired = c.retire-retired.ensures in
    record {
      before = first.mine;
      between = second.mine;
      behind = third.mine;
      since = subst (λ l. BeginsWith l (own_entries (λ event. event.seat) scm_seat (seen_of c.args.seat.now))) acked.shown
          (own_begins (seen_of c.ack-acknowledged.new.seat) (seen_of c.args.seat.now) acked.begins);
      acknowledged = noted_so O.opening (O.faults Scm) first.scm (D.faults first.scm.disk) first.seen first.mine second.mine (AckDel c.args.dn c.args.txn)
          (λ made. may_ack made c.args.txn c.args.dn) c.ack-acknowledged.result c.is_kept.ensures acked.own (λ stopped. (D.faults first.scm.disk, (acked.halted stopped).1)) acked.due acked.refused;
      retired = noted_so O.opening (O.faults Scm) second.scm (D.faults second.scm.disk) second.seen second.mine third.mine (Retire c.args.txn)
          (λ made. is_done (log_of made) c.args.txn) c.retire-retired.result c.is_kept-2.ensures retired.own (λ stopped. (D.faults second.scm.disk, (retired.halted stopped).1)) retired.due retired.refused;
      own = retired.shown;
    }
