use Rattle.std.proofs.Common.{◌≡◌, ℕ, Bool, true, false, List, [], ◌∷◌, ◌++◌, Ok, refl, sym, ap, ◌∙◌, subst}
use Rattle.std.specs.Prelude.{Contains}
use Rattle.std.proofs.lemmas.List.Elements.{Contains-push}
use Rattle.oz_core.specs.declared.event.Event.{Event}
use Rattle.oz_core.specs.declared.event.EventKind.TheVariants.{Grant}
use Rattle.oz_core.specs.Seats.{scm_seat}
use Rattle.oz_scm.specs.declared.grants.entry.Grant.{Grant as MadeGrant}
use Rattle.oz_requests.specs.declared.answer.Answer.{Answer}
use Rattle.oz_scm_events.specs.Granted.{by_scm, own_after}
use Rattle.oz_asker.specs.declared.telling.still.Still.{Still}
use Rattle.oz_asker.specs.declared.telling.still.Still.TheVariants as rests
use Rattle.oz_asker.specs.telling.Still.{StandsStill}
use Rattle.oz_turn.specs.Seat.{seen_of}
use Rattle.oz_underway.specs.laws.Going.{begins_through}
use Rattle.oz_line_blocks.specs.granting.Granting.{IsDueWhileStill, answer_of}
use Rattle.oz_line_blocks.proofs.granting_lemmas.Refused.{had_then, needed_there, refused_due}
use Rattle.oz_line_blocks.proofs.granting_lemmas.Still.{given_since, own, own_contained}
use Rattle.oz_line_blocks.proofs.granting.granting.grant_locked.Goals as goal

pub grant-requires-clause-needed : goal.grant-requires-clause-needed
grant-requires-clause-needed g c coherent story begins all asker gave container pipeline apart beside =
    let O = g.O.Opened in
    let seen = seen_of c.args.seat.now in
    let shown = seen_of c.show.new.seat in
    let now = seen_of c.has_stood_still.new.seat in
    let was = c.requires.empty coherent in
    let stood : StandsStill now (rests.Seat scm_seat c.args.place) = c.has_stood_still.ensures.stood.0 c.if-not-has_stood_still.false in
    let had = had_then O.coherent O.opening O.bytes O.script coherent seen c.args.place c.args.id c.args.stripe c.args.exclude.now was shown now c.show.ensures.begins c.has_stood_still.ensures.looked.goes_on stood in
    let from_there = begins_through story now was.story begins
    (begins_through now shown was.story c.has_stood_still.ensures.looked.goes_on (begins_through shown seen was.story c.show.ensures.begins was.begins)) in
    c.a_need_stays_until_a_grant.ensures story was.story c.args.stripe container pipeline coherent all from_there
    (gave ∙ (sym c.show.ensures.shown ∙ sym had))
    (needed_there O.coherent O.opening O.bytes O.script coherent seen c.args.place c.args.id c.args.stripe c.args.exclude.now was container pipeline apart beside)

granted_of : (stopped : Bool) (stripe : ℕ) (mine : List Event) (grant : MadeGrant) → (stopped ≡ true → ⊥)
    → own_after stopped stripe mine (Ok grant) ≡ mine ++ by_scm (Grant stripe grant.container grant.pipeline grant.first grant.count) ∷ []
granted_of true stripe mine grant runs = absurd (runs refl)
granted_of false stripe mine grant runs = refl

pub returns-in-Ok-clause-known : goal.returns-in-Ok-clause-known
returns-in-Ok-clause-known g c =
    let O = g.O.Opened in
    let grant = c.in-Ok._grant in
    let event = by_scm (Grant c.args.stripe grant.container grant.pipeline grant.first grant.count) in
    let mine = c.show.new.self.mine in
    let seen = seen_of c.args.seat.now in
    let shown = seen_of c.show.new.seat in
    let now = seen_of c.has_stood_still.new.seat in
    let granted = seen_of c.grant.new.seat in
    let given : own scm_seat granted ≡ mine ++ event ∷ [] =
    c.in-Ok.ensures.shown ∙ (c.in-Ok.ensures.own
    ∙ granted_of c.show.new.self.scm.stopped c.args.stripe mine grant (λ stopped. let halted = (c.in-Ok.ensures.halted stopped).1 in cc)) in
    record {
      container = grant.container;
      pipeline = grant.pipeline;
      first = grant.first;
      count = grant.count;
      stands = own_contained scm_seat granted event (subst (λ (l : List Event). Contains l event) (sym given) (Contains-push mine event));
      since = λ coherent.
          let was = c.requires.empty coherent in
          let stood : StandsStill now (rests.Seat scm_seat c.args.place) = c.has_stood_still.ensures.stood.0 c.if-not-has_stood_still.false in
          let had = had_then O.coherent O.opening O.bytes O.script coherent seen c.args.place c.args.id c.args.stripe c.args.exclude.now was shown now
          c.show.ensures.begins c.has_stood_still.ensures.looked.goes_on stood in
          let from_there = begins_through granted now was.story c.in-Ok.ensures.begins
          (begins_through now shown was.story c.has_stood_still.ensures.looked.goes_on (begins_through shown seen was.story c.show.ensures.begins was.begins)) in
          given_since scm_seat granted was.story c.args.place event from_there was.reached
          (given ∙ ap (λ (l : List Event). l ++ event ∷ []) (sym (had ∙ c.show.ensures.shown)));
    }

pub returns-clause-known : goal.returns-clause-known
returns-clause-known g c coherent =
    let O = g.O.Opened in
    let seen = seen_of c.args.seat.now in
    let shown = seen_of c.show.new.seat in
    let now = seen_of c.has_stood_still.new.seat in
    let granted = seen_of c.grant.new.seat in
    let later = seen_of c.length_at_rest-length.new.seat in
    let was = c.requires.empty coherent in
    let stood : StandsStill now (rests.Seat scm_seat c.args.place) = c.has_stood_still.ensures.stood.0 c.if-not-has_stood_still.false in
    let had = had_then O.coherent O.opening O.bytes O.script coherent seen c.args.place c.args.id c.args.stripe c.args.exclude.now was shown now c.show.ensures.begins c.has_stood_still.ensures.looked.goes_on stood in
    let goes_on = begins_through later granted seen c.length_at_rest-length.ensures.looked.goes_on
    (begins_through granted now seen c.grant.ensures.begins (begins_through now shown seen c.has_stood_still.ensures.looked.goes_on c.show.ensures.begins)) in
    let so = refused_due O.coherent O.opening O.bytes O.script coherent seen c.args.place c.args.id c.args.stripe c.args.exclude.now was c.requires.script later c.length_at_rest-length.result
    c.show.new.self.mine c.grant.new.self.mine c.show.new.self.scm.stopped c.in-Err.fault goes_on c.length_at_rest-length.ensures.within
    (c.length_at_rest-length.ensures.all ∙ c.length_at_rest-length.ensures.mine) (had ∙ c.show.ensures.shown) c.in-Err.ensures.own c.in-Err.ensures.refused
    (λ story all is. c.a_refusal_is_of_the_story.ensures story c.args.exclude.now c.in-Err.fault coherent all is) in
    subst (λ (answer : Answer). IsDueWhileStill O.coherent O.opening O.bytes O.script later c.args.id answer c.stills.result) (sym c.answer_of.ensures)
    (subst (λ (stills : List Still). IsDueWhileStill O.coherent O.opening O.bytes O.script later c.args.id (answer_of c.in-Err.fault) stills) (sym c.stills.ensures) so)
