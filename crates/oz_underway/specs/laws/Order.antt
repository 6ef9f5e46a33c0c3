-- Each client's lines are told in order.
use Rattle.std.proofs.Common.{
  ◌≡◌,
  ⊎_elim,
  ◌⊎◌,
  inl,
  inr,
  ℕ,
  zero,
  suc,
  ◌+◌,
  ◌-◌,
  ◌≤◌,
  ◌<◌,
  Bool,
  true,
  false,
  ◌||◌,
  ◌&&◌,
  ◌==◌,
  cond,
  List,
  [],
  ◌∷◌,
  ◌++◌,
  map,
  filter,
  length,
  Option,
  None,
  Some,
  is_some,
  Contains,
  eq-eqb,
  refl,
  sym,
  ap,
  ◌∙◌,
  subst,
  append_assoc,
  append-nil,
  length-append,
  arith,
}
use Rattle.std.proofs.Math.Bool.{or-false}
use Rattle.std.proofs.lemmas.Bool.{cases_lt, eqb-true, false≢true, or_left, or_right}
use Rattle.std.proofs.lemmas.List.{map-append}
use Rattle.std.proofs.lemmas.List.Elements.{filter-append}
use Rattle.std.proofs.lemmas.List.Sums.{sum_by-append}
use Rattle.std.specs.List.{cons_option}
use Rattle.oz_requests.specs.declared.answer.Answer.{Answer}
use Rattle.oz_script.specs.declared.lines.script.Line.{Line}
use Rattle.oz_script.specs.declared.lines.script.Script.{Script}
use Rattle.oz_script.specs.lines.Numbered.{lines_of, AreNumbered, IsNumbered}
use Rattle.oz_core.specs.declared.event.Event.{Event}
use Rattle.oz_core.specs.declared.event.EventKind.{EventKind}
use Rattle.oz_core.specs.declared.event.EventKind.TheVariants.{Told}
use Rattle.oz_core.specs.declared.opening.Opening.{Opening}
use Rattle.oz_core.specs.Asks.{answer_to, is_told}
use Rattle.oz_core.specs.Contents.{OpeningBytes}
use Rattle.oz_core.specs.Fits.{EventFits, Fits, FitsFrom, ToldFits, line_numbers, told_line, told_lines}
use Rattle.oz_core.specs.Law.{KindIsEnabled}
use Rattle.oz_buffer.specs.Buffer.{AllFollow, Follows}
use Rattle.oz_buffer.specs.laws.Courses.{is_told-push}
use Rattle.oz_kept.specs.laws.Deleted.{first_or_later}
use Rattle.oz_underway.specs.laws.Going.{kept_always, none_more, told_more}

-- 1, 2 and so on
pub up_to : ℕ → List ℕ
up_to zero = []
up_to (suc n) = up_to n ++ suc n ∷ []

up_parts : (m more : ℕ) → (rest : List ℕ) × (up_to (m + more) ≡ up_to m ++ rest)
unfolding up_to
up_parts m zero = let same : m + 0 ≡ m = omega arith in ([], ap up_to same ∙ sym (append-nil (up_to m)))
up_parts m (suc more) =
    let front = up_parts m more in
    let same : m + suc more ≡ suc (m + more) = omega arith in
    (front.0 ++ suc (m + more) ∷ [], ap up_to same ∙ (ap (λ l. l ++ suc (m + more) ∷ []) front.1 ∙ append_assoc (up_to m) front.0 (suc (m + more) ∷ [])))

up_one : (n k : ℕ) → k ≡ n + 1 → up_to n ++ k ∷ [] ≡ up_to (n + 1)
unfolding up_to
up_one n k is =
    let same : n + 1 ≡ suc n = omega arith in
    ap (λ x. up_to n ++ x ∷ []) (is ∙ same) ∙ ap up_to (sym same)

-- ---- the numbers of a script's lines

module _ (client : ℕ) where
  of_client : Line → Bool
  of_client line = line.client == client

  numbers_in : List Line → List ℕ
  numbers_in lines = map (λ (line : Line). line.number) (filter (λ (line : Line). line.client == client) lines)

  count_in : List Line → ℕ
  count_in lines = lines_of lines client

  numbers_push : (before : List Line) (line : Line) → numbers_in (before ++ line ∷ []) ≡ numbers_in before ++ numbers_in (line ∷ [])
  unfolding numbers_in
  numbers_push before line =
      ap (map (λ (l : Line). l.number)) (filter-append (λ (l : Line). l.client == client) before (line ∷ []))
      ∙ map-append (λ (l : Line). l.number) (filter (λ (l : Line). l.client == client) before) (filter (λ (l : Line). l.client == client) (line ∷ []))

  counts_push : (before : List Line) (line : Line) → count_in (before ++ line ∷ []) ≡ count_in before + count_in (line ∷ [])
  unfolding count_in
  counts_push before line = sum_by-append (λ (l : Line). cond (l.client == client) 1 0) before (line ∷ [])

  numbered_step : (before : List Line) (line : Line) → line.number ≡ lines_of before line.client + 1 → numbers_in before ≡ up_to (count_in before)
      → numbers_in (before ++ line ∷ []) ≡ up_to (count_in (before ++ line ∷ []))
  unfolding numbers_in count_in
  numbered_step before line number was = by (line.client == client) refl
    where
      by : (t : Bool) → (line.client == client) ≡ t → numbers_in (before ++ line ∷ []) ≡ up_to (count_in (before ++ line ∷ []))
      by true its =
          let here : numbers_in (line ∷ []) ≡ line.number ∷ [] = ap (λ (t : Bool). map (λ (l : Line). l.number) (cond t (line ∷ []) [])) its in
          let one : count_in (line ∷ []) ≡ 1 = ap (λ (t : Bool). 0 + (cond t 1 0)) its in
          let next : line.number ≡ count_in before + 1 = number ∙ ap (λ (c : ℕ). lines_of before c + 1) (eqb-true line.client client its) in
          let more : count_in before + 1 ≡ count_in (before ++ line ∷ []) = omega (arith, counts_push before line, one) in
          numbers_push before line
          ∙ (ap (λ l. numbers_in before ++ l) here
          ∙ (ap (λ l. l ++ line.number ∷ []) was
          ∙ (up_one (count_in before) line.number next ∙ ap up_to more)))
      by false apart =
          let here : numbers_in (line ∷ []) ≡ [] = ap (λ (t : Bool). map (λ (l : Line). l.number) (cond t (line ∷ []) [])) apart in
          let none : count_in (line ∷ []) ≡ 0 = ap (λ (t : Bool). 0 + (cond t 1 0)) apart in
          let same : count_in before ≡ count_in (before ++ line ∷ []) = omega (arith, counts_push before line, none) in
          numbers_push before line
          ∙ (ap (λ l. numbers_in before ++ l) here
          ∙ (append-nil (numbers_in before) ∙ (was ∙ ap up_to same)))

  numbers_from : (rest before : List Line) → AreNumbered before rest → numbers_in before ≡ up_to (count_in before)
      → numbers_in (before ++ rest) ≡ up_to (count_in (before ++ rest))
  numbers_from [] before numbered was =
      ap numbers_in (append-nil before) ∙ (was ∙ ap (λ l. up_to (count_in l)) (sym (append-nil before)))
  numbers_from (line ∷ rest) before numbered was =
      subst (λ (l : List Line). numbers_in l ≡ up_to (count_in l)) (append_assoc before (line ∷ []) rest)
      (numbers_from rest (before ++ line ∷ []) numbered.2 (numbered_step before line numbered.1 was))

  numbers_are : (script : Script) → IsNumbered script → line_numbers script client ≡ up_to (lines_of script.lines client)
  unfolding numbers_in count_in up_to
  numbers_are script numbered = numbers_from script.lines [] numbered.in_order refl

-- each line's number is one of its client's
no_fewer_lines : (before rest : List Line) (client : ℕ) → lines_of before client ≤ lines_of (before ++ rest) client
no_fewer_lines before rest client = omega (arith, sum_by-append (λ (l : Line). cond (l.client == client) 1 0) before rest)

pub record HasNumber (lines : List Line) (line : Line) : Type 0 where
  pub some : 1 ≤ line.number
  pub within : line.number ≤ lines_of lines line.client

pub has_number : (rest before : List Line) (x : Line) → AreNumbered before rest → Contains rest x → HasNumber (before ++ rest) x
has_number [] before x numbered among = absurd (omega (arith, among.1))
has_number (line ∷ rest) before x numbered among = ⊎_elim
    (λ same. subst (HasNumber (before ++ line ∷ rest)) same first)
    (λ later. subst (λ (l : List Line). HasNumber l x) (append_assoc before (line ∷ []) rest) (has_number rest (before ++ line ∷ []) x numbered.2 later))
    (first_or_later line x rest among)
  where
    first : HasNumber (before ++ line ∷ rest) line
    first =
        let one : lines_of (line ∷ []) line.client ≡ 1 = ap (λ (t : Bool). 0 + (cond t 1 0)) (eq-eqb line.client line.client refl) in
        let push = sum_by-append (λ (l : Line). cond (l.client == line.client) 1 0) before (line ∷ []) in
        let more = no_fewer_lines (before ++ line ∷ []) rest line.client in
        let whole = ap (λ (l : List Line). lines_of l line.client) (append_assoc before (line ∷ []) rest) in
        record { some = omega (arith, numbered.1); within = omega (arith, numbered.1, one, push, more, whole) }

-- ---- what was told

-- A client's lines up to one were told, in order, and no others.
pub record AreToldInOrder (script : Script) (client : ℕ) (story : List Event) : Type 0 where
  pub within : (number : ℕ) → is_told client number story ≡ true → number ≤ length (told_lines client story)
  pub each : (number : ℕ) → 1 ≤ number → number ≤ length (told_lines client story) → is_told client number story ≡ true
  pub are : told_lines client story ≡ up_to (length (told_lines client story))
  pub few : length (told_lines client story) ≤ lines_of script.lines client

or_of : (a b : Bool) → (a || b) ≡ true → (a ≡ true) ⊎ (b ≡ true)
or_of true b is = inl refl
or_of false b is = inr is

module _ (script : Script) (client : ℕ) (front : List Event) (was : AreToldInOrder script client front) where
  -- the same told, where an event tells no line of the client
  told_others : (event : Event) → told_line client event.kind ≡ None → ((number : ℕ) → is_some (answer_to client number event.kind) ≡ false)
      → AreToldInOrder script client (front ++ event ∷ [])
  told_others event none untold =
      let same : told_lines client (front ++ event ∷ []) ≡ told_lines client front =
      none_more (told_line client) front event (told_lines client front) none refl in
      let told : (number : ℕ) → is_told client number (front ++ event ∷ []) ≡ is_told client number front =
      λ number. is_told-push client number front event
      ∙ (ap (λ (t : Bool). is_told client number front || t) (untold number) ∙ or-false (is_told client number front)) in
      record {
        within = λ number is. omega (arith, ap length same, was.within number (sym (told number) ∙ is));
        each = λ number some le. told number ∙ was.each number some (omega (arith, ap length same, le));
        are = same ∙ (was.are ∙ ap (λ l. up_to (length l)) (sym same));
        few = omega (arith, ap length same, was.few);
      }

  -- one line more: the next
  told_next : (event : Event) (number : ℕ) → number ≡ length (told_lines client front) + 1 → number ≤ lines_of script.lines client
      → told_line client event.kind ≡ Some number
      → ((other : ℕ) → is_some (answer_to client other event.kind) ≡ (number == other))
      → AreToldInOrder script client (front ++ event ∷ [])
  told_next event number next known tells told =
      let more : told_lines client (front ++ event ∷ []) ≡ told_lines client front ++ number ∷ [] =
      told_more (told_line client) front event ∙ ap (λ (o : Option ℕ). told_lines client front ++ cons_option o []) tells in
      let one : length (told_lines client (front ++ event ∷ [])) ≡ length (told_lines client front) + 1 =
      ap length more ∙ length-append (told_lines client front) (number ∷ []) in
      let now : (other : ℕ) → is_told client other (front ++ event ∷ []) ≡ (is_told client other front || (number == other)) =
      λ other. is_told-push client other front event ∙ ap (λ (t : Bool). is_told client other front || t) (told other) in
      record {
        within = λ other is. ⊎_elim
            (λ before. omega (arith, one, was.within other before))
            (λ here. omega (arith, one, next, eqb-true number other here))
            (or_of (is_told client other front) (number == other) (sym (now other) ∙ is));
        each = λ other some le. now other ∙ ⊎_elim
            (λ (above : length (told_lines client front) < other). or_right (is_told client other front) (number == other)
            (eq-eqb number other (omega (arith, above, le, one, next))))
            (λ few. or_left (is_told client other front) (number == other) (was.each other some few))
            (cases_lt (length (told_lines client front)) other);
        are = more ∙ (ap (λ l. l ++ number ∷ []) was.are ∙ (up_one (length (told_lines client front)) number next ∙ ap up_to (sym one)));
        few = omega (arith, one, next, known);
      }

module _ (Coherent : Type 0) (opening : Opening) (bytes : OpeningBytes) (script : Script) where
  abbrev Follow : List Event → Event → Type 0
  Follow = Follows Coherent opening bytes script

  pub fits_from : (before story : List Event) → Coherent → AllFollow Follow before story → FitsFrom opening bytes script before story
  unfolding AllFollow FitsFrom
  fits_from before [] coherent all = tt
  fits_from before (event ∷ story) coherent all = (all.0.fits coherent, fits_from (before ++ event ∷ []) story coherent all.1)

  -- the number that is told next
  next_number : (numbered : IsNumbered script) (client number : ℕ) (front : List Event) (answer : Answer) → AreToldInOrder script client front
      → ToldFits opening bytes script front client number answer → is_told client number front ≡ false
      → (number ≡ length (told_lines client front) + 1) × (number ≤ lines_of script.lines client)
  next_number numbered client number front answer was fits untold =
      let line = fits.line in
      let has = has_number script.lines [] line numbered.in_order fits.its.there in
      let client_is : lines_of script.lines line.client ≡ lines_of script.lines client = ap (λ (c : ℕ). lines_of script.lines c) fits.its.of_client in
      let above : length (told_lines client front) < number = ⊎_elim
      (λ lt. lt)
      (λ le. absurd (false≢true (sym untold ∙ was.each number (omega (arith, has.some, fits.its.of_number)) le)))
      (cases_lt (length (told_lines client front)) number) in
      let before : 1 < number → number ≤ length (told_lines client front) + 1 =
      λ lt.
      let told = fits.started.before_it (omega (arith, lt, fits.its.of_number)) in
      let same : is_told client (number - 1) front ≡ true =
      subst (λ (c : ℕ). is_told c (number - 1) front ≡ true) fits.its.of_client
      (subst (λ (n : ℕ). is_told line.client (n - 1) front ≡ true) fits.its.of_number told) in
      omega (arith, was.within (number - 1) same, lt) in
      let next : number ≡ length (told_lines client front) + 1 = ⊎_elim
      (λ (lt : 1 < number). omega (arith, before lt, above))
      (λ (le : number ≤ 1). omega (arith, above, le))
      (cases_lt 1 number) in
      (next, omega (arith, has.within, client_is, fits.its.of_number))

  one_further : (numbered : IsNumbered script) (client : ℕ) (front : List Event) (seat : ℕ) (kind : EventKind) → KindIsEnabled opening front seat kind
      → EventFits opening bytes script front kind → AreToldInOrder script client front
      → AreToldInOrder script client (front ++ record { seat = seat; kind = kind } ∷ [])
  one_further numbered client front seat (Told other number answer) enabled fits was = by (other == client) refl
    where
      event : Event
      event = record { seat = seat; kind = Told other number answer }

      by : (t : Bool) → (other == client) ≡ t → AreToldInOrder script client (front ++ record { seat = seat; kind = Told other number answer } ∷ [])
      by true its =
          let same = eqb-true other client its in
          let next = next_number numbered client number front answer was
          (subst (λ (c : ℕ). ToldFits opening bytes script front c number answer) same fits)
          (subst (λ (c : ℕ). is_told c number front ≡ false) same enabled.untold) in
          told_next script client front was (record { seat = seat; kind = Told other number answer }) number next.0 next.1
          (ap (λ (t : Bool). cond t (Some number) None) its)
          (λ line. ap (λ (t : Bool). is_some (cond (t && number == line) (Some answer) None)) its ∙ told_one (number == line))
        where
          told_one : (t : Bool) → is_some (cond t (Some answer) None) ≡ t
          told_one true = refl
          told_one false = refl
      by false apart =
          told_others script client front was (record { seat = seat; kind = Told other number answer })
          (ap (λ (t : Bool). cond t (Some number) None) apart)
          (λ line. ap (λ (t : Bool). is_some (cond (t && number == line) (Some answer) None)) apart)
  one_further numbered client front seat kind enabled fits was =
      told_others script client front was (record { seat = seat; kind = kind }) refl (λ number. refl)

  pub in_order : (numbered : IsNumbered script) (client : ℕ) (story : List Event) → Coherent → AllFollow Follow [] story → AreToldInOrder script client story
  unfolding up_to
  in_order numbered client story coherent all =
      kept_always Follow (AreToldInOrder script client) story all
      (λ front event begins follow follows was.
      one_further numbered client front event.seat event.kind (follows.enabled coherent) (follows.fits coherent) was)
      (record {
        within = λ number is. absurd (false≢true is);
        each = λ number some le. absurd (omega (arith, some, le));
        are = refl;
        few = omega arith;
      })

  pub fits_all : (numbered : IsNumbered script) (story : List Event) → Coherent → AllFollow Follow [] story → Fits opening bytes script story
  fits_all numbered story coherent all = record {
    steps = fits_from [] story coherent all;
    in_order = λ client.
        let told = in_order numbered client story coherent all in
        let m = length (told_lines client story) in
        let k = lines_of script.lines client in
        let rest = up_parts m (k - m) in
        let whole : k ≡ m + (k - m) = omega (arith, told.few) in
        (rest.0, numbers_are client script numbered ∙ (ap up_to whole ∙ (rest.1 ∙ ap (λ l. l ++ rest.0) (sym told.are))));
  }
