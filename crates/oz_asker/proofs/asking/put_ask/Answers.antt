use Rattle.std.proofs.Common.{◌≡◌, List, Err, refl, sym, ap, ◌∙◌, subst}
use Rattle.oz_core.specs.declared.event.Event.{Event}
use Rattle.oz_core.specs.declared.event.EventKind.TheVariants.{Ask}
use Rattle.oz_core.specs.Asks.{pending}
use Rattle.oz_core.specs.Fits.{EventFits}
use Rattle.oz_core.specs.Law.{AskIsEnabled}
use Rattle.oz_turn.specs.Seat.{seen_of}
use Rattle.oz_asker.specs.Asked.{IsAskAt, IsLate}
use Rattle.oz_asker.specs.declared.fault.AskFault.{AskFault}
use Rattle.oz_asker.specs.declared.fault.AskFault.TheVariants as faults
use Rattle.oz_asker.proofs.Standing.{if_ok_also, late_of, same_fault, found_pending, found_there, now_pending, now_there, may_enable, enabled_may}
use Rattle.oz_asker.proofs.asking.put_ask.Goals as goal

-- ---- an Ask that stood before

pub returns-in-Some-clause-undecided : goal.returns-in-Some-clause-undecided
returns-in-Some-clause-undecided g c coherent =
    let O = g.O.Opened in
    let took = c.take-ledger.ensures in
    let story = c.take-ledger.result.0.story in
    let seen : seen_of c.give_back-in-Some.new.seat ≡ story = c.give_back-in-Some.ensures.seen ∙ took.seen in
    let pends = found_pending O.coherent O.opening O.bytes O.script story coherent c.all_follow.ensures c.args.id c.requires.script c.args.request (c.requires.same coherent story took.begins c.all_follow.ensures (sym c.times_said.ensures ∙ c.if-times_said-said.false)) c.in-Some.ensures.some in
    if_ok_also c.in_time-answer.result c.in_time-answer.ensures.ok (λ found is. ap (pending c.args.id) seen ∙ pends)

pub returns-in-Some-clause-ok : goal.returns-in-Some-clause-ok
returns-in-Some-clause-ok g c coherent =
    let O = g.O.Opened in
    let took = c.take-ledger.ensures in
    let story = c.take-ledger.result.0.story in
    let seen : seen_of c.give_back-in-Some.new.seat ≡ story = c.give_back-in-Some.ensures.seen ∙ took.seen in
    let there = found_there O.coherent O.opening O.bytes O.script story coherent c.all_follow.ensures c.args.id c.requires.script c.args.request (c.requires.same coherent story took.begins c.all_follow.ensures (sym c.times_said.ensures ∙ c.if-times_said-said.false)) c.in-Some.ensures.some c.in-Some.place c.in-Some.ensures.place in
    if_ok_also c.in_time-answer.result c.in_time-answer.ensures.ok
    (λ found is. subst (λ (l : List Event). IsAskAt l found c.args.id c.args.request) (sym seen) (subst (λ n. IsAskAt story n c.args.id c.args.request) (sym is.0) there))

pub returns-in-Some-clause-stopped : goal.returns-in-Some-clause-stopped
returns-in-Some-clause-stopped g c count is =
    let O = g.O.Opened in
    let took = c.take-ledger.ensures in
    let story = c.take-ledger.result.0.story in
    let seen : seen_of c.give_back-in-Some.new.seat ≡ story = c.give_back-in-Some.ensures.seen ∙ took.seen in
    let late = late_of story c.args.id c.in_time-answer.result count c.in_time-answer.ensures.err is in (
      subst (λ (l : List Event). IsLate l c.args.id count) (sym seen) late,
      λ coherent.
          let same = c.requires.same coherent story took.begins c.all_follow.ensures (sym c.times_said.ensures ∙ c.if-times_said-said.false) in
          let pends = found_pending O.coherent O.opening O.bytes O.script story coherent c.all_follow.ensures c.args.id c.requires.script c.args.request same c.in-Some.ensures.some in
          let there = found_there O.coherent O.opening O.bytes O.script story coherent c.all_follow.ensures c.args.id c.requires.script c.args.request same c.in-Some.ensures.some c.in-Some.place c.in-Some.ensures.place in
          (ap (pending c.args.id) seen ∙ pends, (c.in-Some.place, subst (λ (l : List Event). IsAskAt l c.in-Some.place c.args.id c.args.request) (sym seen) there)),
    )

-- ---- none stood, and none may

pub returns-in-Err-clause-early : goal.returns-in-Err-clause-early
returns-in-Err-clause-early g c is =
    let O = g.O.Opened in
    let took = c.take-ledger.ensures in
    let story = c.take-ledger.result.0.story in
    let seen : seen_of c.give_back-in-Err.new.seat ≡ story = c.give_back-in-Err.ensures.seen ∙ took.seen in (
      c.give_back-in-Err.ensures.mine ∙ took.mine,
      λ coherent. record {
        decided = ap (pending c.args.id) seen ∙ c.in_default.ensures.none;
        refused = λ enabled. c.in-Err.ensures.early coherent (ap (λ (fault : AskFault). Err fault) (same_fault c.in-Err.fault faults.Early (Err c.in-Err.fault) refl is))
            (enabled_may O.opening story c.args.by c.args.id c.args.request c.requires.script
            (subst (λ (l : List Event). AskIsEnabled O.opening l c.args.by c.args.id c.args.request) seen enabled));
      },
    )

-- ---- an Ask that is appended

pub note-requires-clause-follows : goal.note-requires-clause-follows
note-requires-clause-follows g c =
    let O = g.O.Opened in
    let took = c.take-ledger.ensures in
    let story = c.take-ledger.result.0.story in
    let same = sym c.make_room.ensures.story in
    let enabled : O.coherent → AskIsEnabled O.opening story c.args.by c.args.id c.args.request =
    λ coherent. may_enable O.opening story c.args.by c.args.id c.args.request c.requires.asker c.requires.of_client (c.in_default-make_room.ensures.may coherent) in
    record {
      of_seat = tt;
      enabled = λ coherent. subst (λ (l : List Event). AskIsEnabled O.opening l c.args.by c.args.id c.args.request) same (enabled coherent);
      fits = λ coherent. subst (λ (l : List Event). EventFits O.opening O.bytes O.script l (Ask c.args.id c.args.request)) same
          (c.requires.fits coherent story took.begins c.all_follow.ensures (sym c.times_said.ensures ∙ c.if-times_said-said.false) (enabled coherent));
    }

pub returns-clause-undecided : goal.returns-clause-undecided
returns-clause-undecided g c coherent =
    let story = c.make_room.new.ledger.story in
    let whole = c.give.ensures.seen ∙ c.note.ensures.story in
    if_ok_also c.in_time-answer-2.result c.in_time-answer-2.ensures.ok (λ found is. ap (pending c.args.id) whole ∙ now_pending story c.args.by c.args.id c.args.request)

pub returns-clause-ok : goal.returns-clause-ok
returns-clause-ok g c coherent =
    let story = c.make_room.new.ledger.story in
    let whole = c.give.ensures.seen ∙ c.note.ensures.story in
    let there = now_there (seen_of c.give.new.seat) story c.entries-place.result.now c.args.by c.args.id c.args.request whole c.entries-place.ensures in
    if_ok_also c.in_time-answer-2.result c.in_time-answer-2.ensures.ok
    (λ found is. subst (λ n. IsAskAt (seen_of c.give.new.seat) n c.args.id c.args.request) (sym is.0) there)

pub returns-clause-stopped : goal.returns-clause-stopped
returns-clause-stopped g c count is =
    let story = c.make_room.new.ledger.story in
    let whole = c.give.ensures.seen ∙ c.note.ensures.story in
    let there = now_there (seen_of c.give.new.seat) story c.entries-place.result.now c.args.by c.args.id c.args.request whole c.entries-place.ensures in
    let late = late_of c.note.new.self.story c.args.id c.in_time-answer-2.result count c.in_time-answer-2.ensures.err is in (
      subst (λ (l : List Event). IsLate l c.args.id count) (sym c.give.ensures.seen) late,
      λ coherent. (ap (pending c.args.id) whole ∙ now_pending story c.args.by c.args.id c.args.request, (_, there)),
    )
