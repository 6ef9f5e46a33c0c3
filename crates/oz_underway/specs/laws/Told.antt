-- A line is told once, and asks nothing more then.
use Rattle.std.proofs.Common.{
  ◌≡◌,
  ◌≢◌,
  ℕ,
  Bool,
  true,
  false,
  ◌||◌,
  ◌&&◌,
  ◌==◌,
  cond,
  List,
  [],
  ◌∷◌,
  ◌++◌,
  Option,
  None,
  Some,
  is_some,
  eq-eqb,
  refl,
  sym,
  ap,
  ◌∙◌,
}
use Rattle.std.proofs.Math.Bool.{or-true}
use Rattle.std.proofs.lemmas.Bool.{and_from, and_parts, eqb-true, false≢true}
use Rattle.std.specs.List.{cons_option}
use Rattle.oz_script.specs.declared.lines.script.Script.{Script}
use Rattle.oz_requests.specs.declared.answer.Answer.{Answer}
use Rattle.oz_core.specs.declared.event.Event.{Event}
use Rattle.oz_core.specs.declared.event.EventKind.{EventKind}
use Rattle.oz_core.specs.declared.event.EventKind.TheVariants.{Ask, Told}
use Rattle.oz_core.specs.declared.limits.TheConstants.{SERVICE_CLIENT}
use Rattle.oz_core.specs.declared.opening.Opening.{Opening}
use Rattle.oz_core.specs.Asks.{is_of_line, ask_id, asks_of, answer_to, answers_to, is_told}
use Rattle.oz_core.specs.Contents.{OpeningBytes}
use Rattle.oz_core.specs.Law.{KindIsEnabled}
use Rattle.oz_buffer.specs.Buffer.{AllFollow, Follows}
use Rattle.oz_buffer.specs.laws.Courses.{is_told-push}
use Rattle.oz_turn.specs.Told.{BeginsWith}
use Rattle.oz_underway.specs.laws.Asks.{of_line, script_of_line}
use Rattle.oz_underway.specs.laws.Going.{happened_still, kept_on, none_more, told_more}

pub told_still : (client line : ℕ) (story seen : List Event) → BeginsWith story seen → is_told client line seen ≡ true → is_told client line story ≡ true
told_still client line story seen begins told = happened_still (λ kind. is_some (answer_to client line kind)) story seen begins told

its_answer : (client line : ℕ) (answer : Answer) → answer_to client line (Told client line answer) ≡ Some answer
its_answer client line answer =
    ap (λ (t : Bool). cond t (Some answer) None)
    (and_from (client == client) (line == line) (eq-eqb client client refl) (eq-eqb line line refl))

pub is_told_now : (story : List Event) (seat client line : ℕ) (answer : Answer)
    → is_told client line (story ++ record { seat = seat; kind = Told client line answer } ∷ []) ≡ true
is_told_now story seat client line answer =
    is_told-push client line story (record { seat = seat; kind = Told client line answer })
    ∙ (ap (λ (o : Option Answer). is_told client line story || is_some o) (its_answer client line answer)
    ∙ or-true (is_told client line story))

pub answers_now : (story : List Event) (seat client line : ℕ) (answer : Answer)
    → answers_to client line (story ++ record { seat = seat; kind = Told client line answer } ∷ []) ≡ answers_to client line story ++ answer ∷ []
answers_now story seat client line answer =
    told_more (answer_to client line) story (record { seat = seat; kind = Told client line answer })
    ∙ ap (λ (o : Option Answer). answers_to client line story ++ cons_option o []) (its_answer client line answer)

-- a line that was told asks nothing, and is told nothing
no_ask : (opening : Opening) (client line : ℕ) (front : List Event) (seat : ℕ) (kind : EventKind) → client ≢ SERVICE_CLIENT
    → KindIsEnabled opening front seat kind
    → is_told client line front ≡ true → ask_id client line kind ≡ None
no_ask opening client line front seat (Ask id request) other enabled told = by (is_of_line client line id) refl
  where
    by : (t : Bool) → is_of_line client line id ≡ t → cond t (Some id) None ≡ None
    by false apart = refl
    by true its =
        let same = of_line client line id its in
        let untold = enabled.untold (script_of_line client line id other its) in
        absurd (false≢true (sym untold ∙ (ap (λ (c : ℕ). is_told c id.line front) same.0 ∙ (ap (λ (l : ℕ). is_told client l front) same.1 ∙ told))))
no_ask opening client line front seat kind other enabled told = refl

no_answer : (opening : Opening) (client line : ℕ) (front : List Event) (seat : ℕ) (kind : EventKind) → KindIsEnabled opening front seat kind
    → is_told client line front ≡ true → answer_to client line kind ≡ None
no_answer opening client line front seat (Told other number answer) enabled told = by (other == client && number == line) refl
  where
    by : (t : Bool) → (other == client && number == line) ≡ t → cond t (Some answer) None ≡ None
    by false apart = refl
    by true its =
        let parts = and_parts (other == client) (number == line) its in
        absurd (false≢true (sym enabled.untold ∙ (ap (λ (c : ℕ). is_told c number front) (eqb-true other client parts.0)
        ∙ (ap (λ (l : ℕ). is_told client l front) (eqb-true number line parts.1) ∙ told))))
no_answer opening client line front seat kind enabled told = refl

module _ (Coherent : Type 0) (opening : Opening) (bytes : OpeningBytes) (script : Script) where
  abbrev Follow : List Event → Event → Type 0
  Follow = Follows Coherent opening bytes script

  pub asks_stop : (client line : ℕ) (story seen : List Event) → client ≢ SERVICE_CLIENT → Coherent → AllFollow Follow [] story → BeginsWith story seen
      → is_told client line seen ≡ true → asks_of client line story ≡ asks_of client line seen
  asks_stop client line story seen other coherent all begins told =
      kept_on Follow (λ front. asks_of client line front ≡ asks_of client line seen) story seen begins all
      (λ front event goes follow follows was.
      none_more (ask_id client line) front event (asks_of client line seen)
      (no_ask opening client line front event.seat event.kind other (follows.enabled coherent) (told_still client line front seen goes told)) was)
      refl

  pub told_once : (client line : ℕ) (story seen : List Event) → Coherent → AllFollow Follow [] story → BeginsWith story seen
      → is_told client line seen ≡ true → answers_to client line story ≡ answers_to client line seen
  told_once client line story seen coherent all begins told =
      kept_on Follow (λ front. answers_to client line front ≡ answers_to client line seen) story seen begins all
      (λ front event goes follow follows was.
      none_more (answer_to client line) front event (answers_to client line seen)
      (no_answer opening client line front event.seat event.kind (follows.enabled coherent) (told_still client line front seen goes told)) was)
      refl
