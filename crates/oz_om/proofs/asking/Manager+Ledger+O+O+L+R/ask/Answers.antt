use Rattle.std.proofs.Common.{◌≡◌, ℕ, Err, Some, sym, ap, ◌∙◌, subst, arith}
use Rattle.std.specs.Prelude.{slice_get}
use Rattle.oz_asker.specs.declared.fault.AskFault.{AskFault}
use Rattle.oz_asker.specs.declared.fault.AskFault.TheVariants as faults
use Rattle.oz_core.specs.declared.event.EventKind.TheVariants.{Decide}
use Rattle.oz_turn.specs.declared.seat.Seat.{Seat}
use Rattle.oz_turn.specs.Seat.{seen_of}
use Rattle.oz_turn.specs.Told.{BeginsWith}
use Rattle.oz_om.specs.declared.refusal.Refusal.{Refusal}
use Rattle.oz_om.specs.declared.refusal.Refusal.TheVariants as refusals
use Rattle.oz_om.specs.Refusals.{AskStands}
use Rattle.oz_om.proofs.Answered.{asked_still, begins_itself, fault_stands, longer, one_err, one_fault, refused_stands}
use Rattle.oz_om.proofs.asking.Manager+Ledger+O+O+L+R.ask.Goals as goal

pub returns-in-Err-clause-stopped : goal.returns-in-Err-clause-stopped
returns-in-Err-clause-stopped g c = λ count same.
    (c.put_ask.ensures.stopped count (c.in-Err.is ∙ ap (λ (fault : AskFault). Err fault) ((c.of_asker.ensures.stopped count).0 (one_err c.of_asker.result (refusals.Stopped count) same)))).0

pub returns-in-Err-clause-stands : goal.returns-in-Err-clause-stands
returns-in-Err-clause-stands g c = λ coherent.
    subst (λ (refusal : Refusal). AskStands (seen_of c.put_ask.new.seat) c.args.id c.args.request (Err refusal)) (sym c.of_asker.ensures.is)
    (fault_stands (seen_of c.put_ask.new.seat) c.args.id c.args.request c.in-Err.fault
    (λ count is. ((c.put_ask.ensures.stopped count (c.in-Err.is ∙ ap (λ (fault : AskFault). Err fault) is)).1 coherent).1))

pub returns-clause-ok : goal.returns-clause-ok
returns-clause-ok g c = λ coherent.
    let story = seen_of c.see.new.seat in
    let legal = c.what_follows_is_legal.ensures story coherent c.see.ensures.follow in
    let decided = c.see.ensures.seen in
    let asked = asked_still story (seen_of c.put_ask.new.seat) c.in-Ok.place c.args.id c.args.request (subst (λ (s : Seat _ _ _). BeginsWith (seen_of c.see.new.seat) (seen_of s)) c.in-Ok-decide_locked.ensures.same c.see.ensures.goes_on) (c.in-Ok.ensures.ok coherent) in
    let found = c.what_was_decided.ensures.as_asked g.O.Opened.opening story c.args.id c.args.request c.in-Ok.place c.last_of.result decided.0 decided.1 c.in-Ok-decide_locked.decided.1 decided.2
    legal c.requires.script asked decided.3 in
    let before = seen_of c.put_ask.new.seat in
    record {
      place = c.last_of.result;
      behind = omega (
        arith,
        longer before (seen_of c.args.seat.now) c.put_ask.ensures.goes_on,
        c.what_was_decided.ensures.beyond g.O.Opened.opening before story c.args.id c.args.request c.last_of.result decided.0 decided.1 c.in-Ok-decide_locked.decided.1 decided.2
            (c.what_follows_is_legal.ensures before coherent c.put_ask.ensures.follow) c.requires.script (subst (λ (s : Seat _ _ _). BeginsWith (seen_of c.see.new.seat) (seen_of s)) c.in-Ok-decide_locked.ensures.same c.see.ensures.goes_on) (c.in-Ok.ensures.undecided coherent) decided.3,
      );
      index = decided.1;
      batch = decided.2;
      there = subst (λ (n : ℕ). slice_get story c.last_of.result ≡ Some (record { seat = n; kind = Decide c.args.id decided.1 c.in-Ok-decide_locked.decided.1 decided.2 })) found.of_stripe decided.3;
      asked = found.asked;
      one_thread = found.one_thread;
    }

pub returns-clause-stands : goal.returns-clause-stands
returns-clause-stands g c = λ coherent.
    (c.in-Ok.place, asked_still (seen_of c.see.new.seat) (seen_of c.put_ask.new.seat) c.in-Ok.place c.args.id c.args.request (subst (λ (s : Seat _ _ _). BeginsWith (seen_of c.see.new.seat) (seen_of s)) c.in-Ok-decide_locked.ensures.same c.see.ensures.goes_on) (c.in-Ok.ensures.ok coherent))

pub returns-in-Err-decide_locked-clause-stands : goal.returns-in-Err-decide_locked-clause-stands
returns-in-Err-decide_locked-clause-stands g c = λ coherent.
    refused_stands (seen_of c.decide_locked.new.seat) c.args.id c.args.request c.in-Err-decide_locked.refusal
    (c.in-Ok.place, asked_still (seen_of c.decide_locked.new.seat) (seen_of c.put_ask.new.seat) c.in-Ok.place c.args.id c.args.request c.in-Err-decide_locked.ensures.shown.goes_on (c.in-Ok.ensures.ok coherent))

-- ---- what was compared first

pub returns-in-Err-clause-as_said : goal.returns-in-Err-clause-as_said
returns-in-Err-clause-as_said g c = λ other. record {
  place = seen_of c.put_ask.new.seat;
  behind = c.put_ask.ensures.goes_on;
  begins = begins_itself (seen_of c.put_ask.new.seat);
  so_often = c.in-Err.ensures.as_said (λ same.
      other (ap (λ (refusal : Refusal). Err refusal) (c.of_asker.ensures.other_blocks.1 (one_fault c.in-Err.fault faults.OtherBlocks same))));
}

pub returns-clause-as_said : goal.returns-clause-as_said
returns-clause-as_said g c = λ other. record {
  place = seen_of c.put_ask.new.seat;
  behind = c.put_ask.ensures.goes_on;
  begins = subst (λ (s : Seat _ _ _). BeginsWith (seen_of c.see.new.seat) (seen_of s)) c.in-Ok-decide_locked.ensures.same c.see.ensures.goes_on;
  so_often = c.in-Ok.ensures.as_said (λ same. cc);
}

pub returns-in-Err-decide_locked-clause-as_said : goal.returns-in-Err-decide_locked-clause-as_said
returns-in-Err-decide_locked-clause-as_said g c = λ other. record {
  place = seen_of c.put_ask.new.seat;
  behind = c.put_ask.ensures.goes_on;
  begins = c.in-Err-decide_locked.ensures.shown.goes_on;
  so_often = c.in-Ok.ensures.as_said (λ same. cc);
}
