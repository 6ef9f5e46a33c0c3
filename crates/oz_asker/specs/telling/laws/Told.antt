-- What was told stays told.
use Rattle.std.proofs.Common.{
  ◌≡◌,
  ℕ,
  ◌-◌,
  Bool,
  true,
  false,
  ◌||◌,
  ◌&&◌,
  ◌==◌,
  List,
  [],
  ◌∷◌,
  ◌++◌,
  Option,
  None,
  Some,
  is_some,
  cond,
  eq-eqb,
  refl,
  sym,
  ap,
  ◌∙◌,
  subst,
}
use Rattle.std.proofs.lemmas.Bool.{and_from}
use Rattle.std.proofs.lemmas.List.Folds.{list_any-append}
use Rattle.oz_core.specs.declared.event.Event.{Event}
use Rattle.oz_core.specs.Asks.{answer_to, is_told}
use Rattle.oz_core.specs.Lines.{AfterIsTold, HasStarted}
use Rattle.oz_script.specs.declared.lines.script.Line.{Line}
use Rattle.oz_requests.specs.declared.answer.Answer.{Answer}
use Rattle.oz_buffer.specs.laws.Courses.{is_told-push}
use Rattle.oz_turn.specs.Told.{BeginsWith}
use Rattle.oz_asker.specs.telling.Tells.{told_event}

or_true : (b : Bool) → (b || true) ≡ true
or_true true = refl
or_true false = refl

pub told_now : (story : List Event) (seat client line : ℕ) (answer : Answer) → is_told client line (story ++ told_event seat client line answer ∷ []) ≡ true
told_now story seat client line answer =
    let its : (client == client && line == line) ≡ true = and_from (client == client) (line == line) (eq-eqb client client refl) (eq-eqb line line refl) in
    is_told-push client line story (told_event seat client line answer)
    ∙ ap (λ (b : Bool). is_told client line story || is_some (cond b (Some answer) None)) its
    ∙ or_true (is_told client line story)

told_behind : (client line : ℕ) (story more : List Event) → is_told client line story ≡ true → is_told client line (story ++ more) ≡ true
told_behind client line story more told =
    list_any-append (λ (event : Event). is_some (answer_to client line event.kind)) story more
    ∙ ap (λ (b : Bool). b || is_told client line more) told

pub told_later : (client line : ℕ) (story later : List Event) → BeginsWith later story → is_told client line story ≡ true → is_told client line later ≡ true
told_later client line story later (more, parts) told =
    subst (λ (l : List Event). is_told client line l ≡ true) (sym parts) (told_behind client line story more told)

after_later : (story later : List Event) → BeginsWith later story → (after : Option (ℕ × ℕ)) → AfterIsTold story after → AfterIsTold later after
after_later story later begins None told = tt
after_later story later begins (Some named) told = told_later named.0 named.1 story later begins told

pub started_later : (story later : List Event) (line : Line) → BeginsWith later story → HasStarted story line → HasStarted later line
started_later story later line begins started = record {
  before_it = λ second. told_later line.client (line.number - 1) story later begins (started.before_it second);
  after_it = after_later story later begins line.after started.after_it;
}
