-- How often a line asked: its Asks have the steps 1, 2 and so on.
use Rattle.std.proofs.Common.{
  ◌≡◌,
  ◌≢◌,
  ⊎_elim,
  ℕ,
  ◌+◌,
  ◌≤◌,
  ◌<◌,
  Bool,
  true,
  false,
  ◌||◌,
  ◌==◌,
  not,
  cond,
  List,
  [],
  ◌∷◌,
  length,
  Option,
  None,
  Some,
  eq-eqb,
  refl,
  sym,
  ap,
  ◌∙◌,
  arith,
}
use Rattle.std.proofs.Math.Bool.{or-false, or-true}
use Rattle.std.proofs.lemmas.Bool.{cases_lt, eqb-true, ne_eqb, and_parts, and_from, false≢true}
use Rattle.std.proofs.lemmas.Option.{none-some, same_Some}
use Rattle.std.specs.List.{cons_option, fold}
use Rattle.std.specs.Option.{option_or}
use Rattle.oz_script.specs.declared.lines.script.Script.{Script}
use Rattle.oz_requests.specs.declared.request.AskId.{AskId}
use Rattle.oz_requests.specs.declared.request.Request.{Request}
use Rattle.oz_core.specs.declared.event.Event.{Event}
use Rattle.oz_core.specs.declared.event.EventKind.{EventKind}
use Rattle.oz_core.specs.declared.event.EventKind.TheVariants.{Ask, Decide}
use Rattle.oz_core.specs.declared.limits.TheConstants.{SERVICE_CLIENT}
use Rattle.oz_core.specs.declared.opening.Opening.{Opening}
use Rattle.oz_core.specs.Asks.{is_script, is_of_line, is_id, asks, is_asked, pending, pending_after, ask_id, asks_of, last_ask}
use Rattle.oz_core.specs.Contents.{OpeningBytes}
use Rattle.oz_core.specs.Fits.{EventFits, AskFits}
use Rattle.oz_core.specs.Stories.{last_in}
use Rattle.oz_buffer.specs.Buffer.{AllFollow, Follows}
use Rattle.oz_buffer.specs.laws.Courses.{asked-push, ask-push, pending-push}
use Rattle.oz_buffer.specs.laws.Lines.{last_is_of_line}
use Rattle.oz_kept.specs.laws.Granted.{one_ask_id}
use Rattle.oz_turn.specs.Told.{BeginsWith}
use Rattle.oz_underway.specs.laws.Going.{count_more, follow_before, kept_always, same_by_count}

abbrev pub asks_count : ℕ → ℕ → List Event → ℕ
asks_count client line story = length (asks_of client line story)

-- ---- ids

pub scripted : (client line step : ℕ) → client ≢ SERVICE_CLIENT → is_script (record { client = client; line = line; step = step }) ≡ true
scripted client line step other = ap not (ne_eqb client SERVICE_CLIENT other)

pub of_line : (client line : ℕ) (id : AskId) → is_of_line client line id ≡ true → (id.client ≡ client) × (id.line ≡ line)
of_line client line id is =
    let parts = and_parts (id.client == client) (id.line == line) is in
    (eqb-true id.client client parts.0, eqb-true id.line line parts.1)

pub its_line : (client line : ℕ) (id : AskId) → id.client ≡ client → id.line ≡ line → is_of_line client line id ≡ true
its_line client line id one two =
    and_from (id.client == client) (id.line == line) (eq-eqb id.client client one) (eq-eqb id.line line two)

pub script_of_line : (client line : ℕ) (id : AskId) → client ≢ SERVICE_CLIENT → is_of_line client line id ≡ true → is_script id ≡ true
script_of_line client line id other is =
    ap (λ (c : ℕ). not (c == SERVICE_CLIENT)) (of_line client line id is).0 ∙ ap not (ne_eqb client SERVICE_CLIENT other)

pub id_of_line : (id other : AskId) → is_id id other ≡ true → is_of_line id.client id.line other ≡ true
id_of_line id other is = (and_parts (is_of_line id.client id.line other) (other.step == id.step) is).0

-- ---- what is pending was asked

was_asked : (id : AskId) (asked : Bool) (before : Option Request) (kind : EventKind) (request : Request)
    → ((r : Request) → before ≡ Some r → asked ≡ true) → pending_after id before kind ≡ Some request → (asked || asks id kind) ≡ true
was_asked id asked before (Ask other made) request was is = by (is_id id other) is
  where
    by : (t : Bool) → cond t (Some made) before ≡ Some request → (asked || t) ≡ true
    by true is = or-true asked
    by false is = ap (λ (b : Bool). b || false) (was request is)
was_asked id asked before (Decide other index reply batch) request was is = by (is_id id other) is
  where
    by : (t : Bool) → cond t None before ≡ Some request → (asked || false) ≡ true
    by true is = absurd (none-some request is)
    by false is = ap (λ (b : Bool). b || false) (was request is)
was_asked id asked before kind request was is = ap (λ (b : Bool). b || false) (was request is)

-- ---- nothing asked

one_behind : {X : Type 0} (x : X) (xs : List X) → (y : X) × (fold (λ before z. Some z) (Some x) xs ≡ Some y)
one_behind x [] = (x, refl)
one_behind x (z ∷ xs) = one_behind z xs

pub none_last : {X : Type 0} (xs : List X) → last_in xs ≡ None → xs ≡ []
none_last [] none = refl
none_last (x ∷ xs) none = let last = one_behind x xs in absurd (none-some last.0 (sym none ∙ last.1))

module _ (Coherent : Type 0) (opening : Opening) (bytes : OpeningBytes) (script : Script) where
  abbrev Follow : List Event → Event → Type 0
  Follow = Follows Coherent opening bytes script

  pub pending_was_asked : (id : AskId) (story : List Event) → AllFollow Follow [] story → (request : Request) → pending id story ≡ Some request
      → is_asked id story ≡ true
  pending_was_asked id story all =
      kept_always Follow (λ front. (request : Request) → pending id front ≡ Some request → is_asked id front ≡ true) story all
      (λ front event begins follow follows was request is.
      asked-push id front event
      ∙ was_asked id (is_asked id front) (pending id front) event.kind request was (sym (pending-push id front event) ∙ is))
      (λ request is. absurd (none-some request is))

  -- the step of an Ask is the next of its line
  turn_of : (client line : ℕ) (front : List Event) (id : AskId) (request : Request) → client ≢ SERVICE_CLIENT
      → EventFits opening bytes script front (Ask id request) → is_of_line client line id ≡ true
      → id.step ≡ asks_count client line front + 1
  turn_of client line front id request other fits is =
      let fit : AskFits opening script front id request = fits.0 (script_of_line client line id other is) in
      let same = of_line client line id is in
      fit.in_turn ∙ (ap (λ (c : ℕ). asks_count c id.line front + 1) same.0 ∙ ap (λ (l : ℕ). asks_count client l front + 1) same.1)

  -- ---- an id that was asked has no greater step

  no_greater : (front : List Event) (id : AskId) (kind : EventKind) → id.client ≢ SERVICE_CLIENT → EventFits opening bytes script front kind
      → (asked : Bool) → (asked ≡ true → id.step ≤ asks_count id.client id.line front)
      → (asked || asks id kind) ≡ true → id.step ≤ asks_count id.client id.line front + length (cons_option (ask_id id.client id.line kind) [])
  no_greater front id (Ask other request) script_client fits asked was is = by (is_id id other) refl is
    where
      by : (t : Bool) → is_id id other ≡ t → (asked || t) ≡ true
          → id.step ≤ asks_count id.client id.line front + length (cons_option (ask_id id.client id.line (Ask other request)) [])
      by true same is =
          let line = id_of_line id other same in
          let turn = turn_of id.client id.line front other request script_client fits line in
          let one : length (cons_option (ask_id id.client id.line (Ask other request)) []) ≡ 1 =
          ap (λ (t : Bool). length (cons_option (cond t (Some other) None) [])) line in
          omega (arith, turn, one, ap (λ (i : AskId). i.step) (one_ask_id id other same))
      by false apart is = omega (arith, was (sym (or-false asked) ∙ is))
  no_greater front id kind script_client fits asked was is = omega (arith, was (sym (or-false asked) ∙ is))

  pub step_of_asked : (id : AskId) → id.client ≢ SERVICE_CLIENT → (story : List Event) → Coherent → AllFollow Follow [] story
      → is_asked id story ≡ true → id.step ≤ asks_count id.client id.line story
  step_of_asked id other story coherent all =
      kept_always Follow (λ front. is_asked id front ≡ true → id.step ≤ asks_count id.client id.line front) story all
      (λ front event begins follow follows was is.
      let next = no_greater front id event.kind other (follows.fits coherent) (is_asked id front) was (sym (asked-push id front event) ∙ is) in
      omega (arith, next, count_more (ask_id id.client id.line) front event))
      (λ is. absurd (false≢true is))

  -- ---- and each step up to the last was asked

  now_asked : (front : List Event) (id : AskId) (kind : EventKind) → id.client ≢ SERVICE_CLIENT → EventFits opening bytes script front kind
      → (id.step ≤ asks_count id.client id.line front → is_asked id front ≡ true)
      → id.step ≤ asks_count id.client id.line front + length (cons_option (ask_id id.client id.line kind) [])
      → (is_asked id front || asks id kind) ≡ true
  now_asked front id (Ask other request) script_client fits was le = by (is_of_line id.client id.line other) refl
    where
      asked_before : id.step ≤ asks_count id.client id.line front → (is_asked id front || is_id id other) ≡ true
      asked_before few = ap (λ (b : Bool). b || is_id id other) (was few)

      by : (t : Bool) → is_of_line id.client id.line other ≡ t → (is_asked id front || is_id id other) ≡ true
      by true line = ⊎_elim
          (λ (above : asks_count id.client id.line front < id.step).
          let turn = turn_of id.client id.line front other request script_client fits line in
          let one : length (cons_option (ask_id id.client id.line (Ask other request)) []) ≡ 1 =
          ap (λ (t : Bool). length (cons_option (cond t (Some other) None) [])) line in
          let same : other.step ≡ id.step = omega (arith, turn, one, above, le) in
          ap (λ (b : Bool). is_asked id front || b)
          (and_from (is_of_line id.client id.line other) (other.step == id.step) line (eq-eqb other.step id.step same))
          ∙ or-true (is_asked id front))
          asked_before
          (cases_lt (asks_count id.client id.line front) id.step)
      by false apart =
          let none : length (cons_option (ask_id id.client id.line (Ask other request)) []) ≡ 0 =
          ap (λ (t : Bool). length (cons_option (cond t (Some other) None) [])) apart in
          asked_before (omega (arith, le, none))
  now_asked front id kind script_client fits was le = ap (λ (b : Bool). b || false) (was (omega (arith, le)))

  pub asked_of_step : (id : AskId) → id.client ≢ SERVICE_CLIENT → 1 ≤ id.step → (story : List Event) → Coherent → AllFollow Follow [] story
      → id.step ≤ asks_count id.client id.line story → is_asked id story ≡ true
  asked_of_step id other some story coherent all =
      kept_always Follow (λ front. id.step ≤ asks_count id.client id.line front → is_asked id front ≡ true) story all
      (λ front event begins follow follows was le.
      asked-push id front event
      ∙ now_asked front id event.kind other (follows.fits coherent) was (omega (arith, le, count_more (ask_id id.client id.line) front event)))
      (λ le. absurd (omega (arith, some, le)))

  -- ---- the last

  last_step : (client line : ℕ) (front : List Event) (kind : EventKind) → client ≢ SERVICE_CLIENT → EventFits opening bytes script front kind
      → ((id : AskId) → last_ask client line front ≡ Some id → id.step ≡ asks_count client line front)
      → (id : AskId) → option_or (ask_id client line kind) (last_ask client line front) ≡ Some id
      → id.step ≡ asks_count client line front + length (cons_option (ask_id client line kind) [])
  last_step client line front (Ask other request) script_client fits was id is = by (is_of_line client line other) refl is
    where
      by : (t : Bool) → is_of_line client line other ≡ t → option_or (cond t (Some other) None) (last_ask client line front) ≡ Some id
          → id.step ≡ asks_count client line front + length (cons_option (cond t (Some other) None) [])
      by true its is =
          let turn = turn_of client line front other request script_client fits its in
          omega (arith, turn, ap (λ (i : AskId). i.step) (same_Some other id is))
      by false apart is = omega (arith, was id is)
  last_step client line front kind script_client fits was id is = omega (arith, was id is)

  pub step_of_last : (client line : ℕ) → client ≢ SERVICE_CLIENT → (story : List Event) → Coherent → AllFollow Follow [] story
      → (id : AskId) → last_ask client line story ≡ Some id → id.step ≡ asks_count client line story
  step_of_last client line other story coherent all =
      kept_always Follow (λ front. (id : AskId) → last_ask client line front ≡ Some id → id.step ≡ asks_count client line front) story all
      (λ front event begins follow follows was id is.
      let next = last_step client line front event.kind other (follows.fits coherent) was id (sym (ask-push client line front event) ∙ is) in
      omega (arith, next, count_more (ask_id client line) front event))
      (λ id is. absurd (none-some id is))

  pub last_id : (client line : ℕ) → client ≢ SERVICE_CLIENT → (story : List Event) → Coherent → AllFollow Follow [] story
      → (id : AskId) → last_ask client line story ≡ Some id
      → id ≡ record { client = client; line = line; step = asks_count client line story }
  last_id client line other story coherent all id is =
      let its = of_line client line id (last_is_of_line Coherent opening bytes script client line story all id is) in
      let turn = step_of_last client line other story coherent all id is in
      λ i. record { client = its.0 i; line = its.1 i; step = turn i }

  same_count : (client line : ℕ) (seen story : List Event) → client ≢ SERVICE_CLIENT → Coherent → AllFollow Follow [] seen → AllFollow Follow [] story
      → (last : Option AskId) → last_ask client line seen ≡ last → last_ask client line story ≡ last
      → asks_count client line story ≡ asks_count client line seen
  same_count client line seen story other coherent before all None was is =
      ap length (none_last (asks_of client line story) is ∙ sym (none_last (asks_of client line seen) was))
  same_count client line seen story other coherent before all (Some id) was is =
      sym (step_of_last client line other story coherent all id is) ∙ step_of_last client line other seen coherent before id was

  pub same_asks : (client line : ℕ) (seen story : List Event) → client ≢ SERVICE_CLIENT → Coherent → AllFollow Follow [] story
      → BeginsWith story seen → last_ask client line story ≡ last_ask client line seen
      → asks_of client line story ≡ asks_of client line seen
  same_asks client line seen story other coherent all begins same =
      same_by_count (ask_id client line) story seen begins
      (same_count client line seen story other coherent (follow_before Follow story seen begins all) all (last_ask client line seen) refl same)
