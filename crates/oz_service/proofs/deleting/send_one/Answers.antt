use Rattle.oz_turn.specs.Seat.{seen_of}
use Rattle.oz_service.proofs.Sent.{applied_later, has_applied, noted_since}
use Rattle.oz_service.proofs.deleting.send_one.Goals as goal

pub note_at-requires-clause-applied : goal.note_at-requires-clause-applied
note_at-requires-clause-applied g c = λ coherent.
    has_applied c.args.dn c.args.txn.now (seen_of c.args.seat.now) (seen_of c.apply_at.new.seat) c.in-Ok.ensures.applied

pub returns-in-Ok-clause-sent : goal.returns-in-Ok-clause-sent
returns-in-Ok-clause-sent g c = (
  applied_later c.args.dn c.args.txn.now (seen_of c.args.seat.now) (seen_of c.apply_at.new.seat) (seen_of c.note_at.new.seat) c.note_at.ensures.looked.begins c.in-Ok.ensures.applied,
  noted_since g.O.Opened.opening c.args.dn c.args.txn.now.number (seen_of c.apply_at.new.seat) (seen_of c.args.seat.now) (seen_of c.note_at.new.seat) c.note_at.result
      c.in-Ok.ensures.looked.begins c.note_at.ensures.noted,
)

pub returns-in-Err-clause-sent : goal.returns-in-Err-clause-sent
returns-in-Err-clause-sent g c = c.in-Err.ensures.applied
