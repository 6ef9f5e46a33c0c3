use Rattle.std.proofs.Common.{◌≡◌, List, [], sym, ap, ◌∙◌, subst}
use Rattle.oz_core.specs.declared.event.Event.{Event}
use Rattle.oz_core.specs.declared.event.EventKind.TheVariants.{Told}
use Rattle.oz_core.specs.declared.event.Node.TheVariants.{Datanode}
use Rattle.oz_core.specs.Fits.{EventFits}
use Rattle.oz_core.specs.Law.{ToldIsEnabled}
use Rattle.oz_core.specs.Manager.{halt_of}
use Rattle.oz_requests.specs.declared.answer.Answer.{Answer}
use Rattle.oz_turn.specs.Seat.{seen_of}
use Rattle.oz_asker.specs.telling.Done.{answer_done}
use Rattle.oz_asker.specs.telling.Tells.{KeepsUntold, MayTell}
use Rattle.oz_asker.proofs.telling.done.tell_done.Goals as goal

pub note-requires-clause-follows : goal.note-requires-clause-follows
note-requires-clause-follows g c =
    let O = g.O.Opened in
    let took = c.take-ledger.ensures in
    let story = c.take-ledger.result.0.story in
    let a = c.args in
    let answer = c.answer_done-answer.result in
    let same = sym c.make_room.ensures.story in
    let may = c.in_default.ensures.may in
    let enabled : ToldIsEnabled O.opening story a.by a.client a.line answer = record {
      of_line = c.requires.of_line;
      untold = may.untold;
      in_time = may.in_time;
    } in
    let is = c.answer_done-answer.ensures ∙ ap (answer_done a.dn) c.halt.ensures in
    record {
      of_seat = tt;
      enabled = λ coherent. subst (λ (l : List Event). ToldIsEnabled O.opening l a.by a.client a.line answer) same enabled;
      fits = λ coherent. subst (λ (l : List Event). EventFits O.opening O.bytes O.script l (Told a.client a.line answer)) same
          (subst (λ (x : Answer). EventFits O.opening O.bytes O.script story (Told a.client a.line x)) (sym is)
          (c.requires.fits coherent story took.begins c.all_follow.ensures (subst (λ (x : Answer). MayTell O.opening story a.client a.line a.last a.said [] x) is may)));
    }

pub returns-in-Err-clause-cause : goal.returns-in-Err-clause-cause
returns-in-Err-clause-cause g c =
    let O = g.O.Opened in
    let a = c.args in
    let same : seen_of c.give_back.new.seat ≡ c.take-ledger.result.0.story = c.give_back.ensures.seen ∙ c.take-ledger.ensures.seen in
    let is = c.answer_done-answer.ensures ∙ ap (answer_done a.dn) c.halt.ensures in
    subst (λ (l : List Event). KeepsUntold O.opening l a.client a.line a.last a.said [] (answer_done a.dn (halt_of (Datanode a.dn) l)) c.in-Err.cause) (sym same)
    (subst (λ (x : Answer). KeepsUntold O.opening c.take-ledger.result.0.story a.client a.line a.last a.said [] x c.in-Err.cause) is c.in-Err.ensures.cause)
