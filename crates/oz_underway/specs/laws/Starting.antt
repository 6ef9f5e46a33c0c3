-- What has started stays so, and nothing is asked before.
use Rattle.std.proofs.Common.{
  ◌≡◌,
  ◌≢◌,
  ◌⊎◌,
  ⊎_elim,
  inl,
  inr,
  ℕ,
  ◌-◌,
  ◌≤◌,
  length,
  Bool,
  true,
  false,
  cond,
  List,
  [],
  Option,
  None,
  Some,
  Contains,
  refl,
  ◌∙◌,
  subst,
  arith,
}
use Rattle.std.proofs.lemmas.List.Elements.{All-contains}
use Rattle.oz_script.specs.declared.lines.script.Line.{Line}
use Rattle.oz_script.specs.declared.lines.script.Script.{Script}
use Rattle.oz_script.specs.lines.Numbered.{IsNumbered}
use Rattle.oz_core.specs.declared.event.Event.{Event}
use Rattle.oz_core.specs.declared.event.EventKind.{EventKind}
use Rattle.oz_core.specs.declared.event.EventKind.TheVariants.{Ask}
use Rattle.oz_core.specs.declared.limits.TheConstants.{SERVICE_CLIENT}
use Rattle.oz_core.specs.declared.opening.Opening.{Opening}
use Rattle.oz_core.specs.Asks.{ask_id, asks_of, is_of_line}
use Rattle.oz_core.specs.Contents.{OpeningBytes}
use Rattle.oz_core.specs.Fits.{AskFits, EventFits}
use Rattle.oz_core.specs.Lines.{AfterIsTold, HasStarted}
use Rattle.oz_buffer.specs.Buffer.{AllFollow, Follows}
use Rattle.oz_kept.specs.laws.Lines.{lines_apart}
use Rattle.oz_turn.specs.Told.{BeginsWith}
use Rattle.oz_underway.specs.laws.Asks.{of_line, script_of_line}
use Rattle.oz_underway.specs.laws.Going.{begins_itself, begins_push, kept_always, none_more}
use Rattle.oz_underway.specs.laws.Told.{told_still}

after_still : (story seen : List Event) → BeginsWith story seen → (after : Option (ℕ × ℕ)) → AfterIsTold seen after → AfterIsTold story after
after_still story seen begins None told = tt
after_still story seen begins (Some named) told = told_still named.0 named.1 story seen begins told

pub started_still : (story seen : List Event) (line : Line) → BeginsWith story seen → HasStarted seen line → HasStarted story line
started_still story seen line begins started = record {
  before_it = λ lt. told_still line.client (line.number - 1) story seen begins (started.before_it lt);
  after_it = after_still story seen begins line.after started.after_it;
}

-- no line of a script is the service job's
pub not_service : (script : Script) → IsNumbered script → (line : Line) → Contains script.lines line → line.client ≢ SERVICE_CLIENT
not_service script numbered line there is =
    let known = All-contains (λ (l : Line). l.client ≤ length script.clients) script.lines line numbered.known there in
    absurd (omega (arith, known, numbered.clients, is))

-- a front at which the line had started, and had asked nothing
pub record IsFreshAt (story : List Event) (line : Line) (front : List Event) : Type 0 where
  pub goes_on : BeginsWith story front
  pub started : HasStarted front line
  pub unasked : asks_of line.client line.number front ≡ []

module _ (Coherent : Type 0) (opening : Opening) (bytes : OpeningBytes) (script : Script) (numbered : IsNumbered script)
    (line : Line) (there : Contains script.lines line) (other : line.client ≢ SERVICE_CLIENT) where
  -- it asks nothing, or it had started
  starts : (front : List Event) (kind : EventKind) → EventFits opening bytes script front kind
      → (ask_id line.client line.number kind ≡ None) ⊎ HasStarted front line
  starts front (Ask id request) fits = by (is_of_line line.client line.number id) refl
    where
      by : (t : Bool) → is_of_line line.client line.number id ≡ t → (cond t (Some id) None ≡ None) ⊎ HasStarted front line
      by false apart = inl refl
      by true its =
          let fit : AskFits opening script front id request = fits.0 (script_of_line line.client line.number id other its) in
          let same = of_line line.client line.number id its in
          let one : fit.line ≡ line = lines_apart script numbered fit.line line fit.its.there there (fit.its.of_client ∙ same.0) (fit.its.of_number ∙ same.1) in
          inr (subst (HasStarted front) one fit.started)
  starts front kind fits = inl refl

  -- it asked nothing, or a front is there
  abbrev IsUnaskedOrFresh : List Event → Type 0
  IsUnaskedOrFresh story = (asks_of line.client line.number story ≡ []) ⊎ ((front : List Event) × IsFreshAt story line front)

  unasked_or_fresh : (story : List Event) → Coherent → AllFollow (Follows Coherent opening bytes script) [] story → IsUnaskedOrFresh story
  unasked_or_fresh story coherent all =
      kept_always (Follows Coherent opening bytes script) IsUnaskedOrFresh story all
      (λ front event begins follow follows was. ⊎_elim
      (λ (none : asks_of line.client line.number front ≡ []). ⊎_elim
      (λ (no_ask : ask_id line.client line.number event.kind ≡ None). inl (none_more (ask_id line.client line.number) front event [] no_ask none))
      (λ (started : HasStarted front line). inr (
        front,
        record {
          goes_on = begins_push front front event (begins_itself front);
          started = started;
          unasked = none;
        },
      ))
      (starts front event.kind (follows.fits coherent)))
      (λ (fresh : (earlier : List Event) × IsFreshAt front line earlier). inr (
        fresh.0,
        record {
          goes_on = begins_push front fresh.0 event fresh.1.goes_on;
          started = fresh.1.started;
          unasked = fresh.1.unasked;
        },
      ))
      was)
      (inl refl)

  -- who has started had once started and asked nothing
  pub fresh_front : (story : List Event) → Coherent → AllFollow (Follows Coherent opening bytes script) [] story → HasStarted story line
      → (front : List Event) × IsFreshAt story line front
  fresh_front story coherent all started = ⊎_elim
      (λ none. (story, record { goes_on = begins_itself story; started = started; unasked = none }))
      (λ fresh. fresh)
      (unasked_or_fresh story coherent all)
