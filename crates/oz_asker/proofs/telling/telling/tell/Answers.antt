use Rattle.std.proofs.Common.{◌≡◌, List, sym, ◌∙◌, subst}
use Rattle.oz_core.specs.declared.event.Event.{Event}
use Rattle.oz_core.specs.declared.event.EventKind.TheVariants.{Told}
use Rattle.oz_core.specs.Fits.{EventFits}
use Rattle.oz_core.specs.Law.{ToldIsEnabled}
use Rattle.oz_turn.specs.Seat.{seen_of}
use Rattle.oz_asker.specs.telling.Tells.{KeepsUntold}
use Rattle.oz_asker.proofs.telling.telling.tell.Goals as goal

pub note-requires-clause-follows : goal.note-requires-clause-follows
note-requires-clause-follows g c =
    let O = g.O.Opened in
    let took = c.take-ledger.ensures in
    let story = c.take-ledger.result.0.story in
    let same = sym c.make_room.ensures.story in
    let may = c.in_default.ensures.may in
    let enabled : ToldIsEnabled O.opening story c.args.by c.args.client c.args.line c.args.answer = record {
      of_line = c.requires.of_line;
      untold = may.untold;
      in_time = may.in_time;
    } in
    record {
      of_seat = tt;
      enabled = λ coherent. subst (λ (l : List Event). ToldIsEnabled O.opening l c.args.by c.args.client c.args.line c.args.answer) same enabled;
      fits = λ coherent. subst (λ (l : List Event). EventFits O.opening O.bytes O.script l (Told c.args.client c.args.line c.args.answer)) same
          (c.requires.fits coherent story took.begins c.all_follow.ensures may);
    }

pub returns-in-Err-clause-cause : goal.returns-in-Err-clause-cause
returns-in-Err-clause-cause g c =
    let O = g.O.Opened in
    let a = c.args in
    let same : seen_of c.give_back.new.seat ≡ c.take-ledger.result.0.story = c.give_back.ensures.seen ∙ c.take-ledger.ensures.seen in
    subst (λ (l : List Event). KeepsUntold O.opening l a.client a.line a.last a.said a.stills.now a.answer c.in-Err.cause) (sym same) c.in-Err.ensures.cause
