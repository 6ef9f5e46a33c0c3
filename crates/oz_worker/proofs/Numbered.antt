-- The lines of a client, in a script whose lines are numbered.
use Rattle.std.proofs.Common.{◌≡◌, ℕ, zero, suc, ◌+◌, ◌≤◌, ◌<◌, Bool, true, false, ◌&&◌, ◌==◌, cond, List, [], ◌∷◌, ◌++◌, filter, Option, None, Some, Contains, eq-eqb, refl, sym, ap, ◌∙◌, subst, append-nil, arith}
use Rattle.std.specs.Prelude.{nat_lt, slice_get}
use Rattle.std.proofs.lemmas.Bool.{eqb-true, lt-ltb, le-ltb}
use Rattle.std.proofs.lemmas.List.Elements.{Contains-append_right}
use Rattle.std.proofs.lemmas.List.Sums.{sum_by-append, fold-append}
use Rattle.std.proofs.lemmas.Option.{none-some, same_Some}
use Rattle.oz_script.specs.declared.lines.script.Line.{Line}
use Rattle.oz_script.specs.declared.lines.script.Script.{Script}
use Rattle.oz_script.specs.lines.Numbered.{lines_of, AreNumbered, IsNumbered}
use Rattle.oz_core.specs.Steps.{is_opened_as, opens_before, opening_line}
use Rattle.oz_core.specs.Stories.{last_in}

more_of : (before : List Line) (x : Line) (c : ℕ) → lines_of (before ++ x ∷ []) c ≡ lines_of before c + cond (x.client == c) 1 0
more_of before x c =
    let none : lines_of before c + (0 + cond (x.client == c) 1 0) ≡ lines_of before c + cond (x.client == c) 1 0 = omega arith in
    sum_by-append (λ (l : Line). cond (l.client == c) 1 0) before (x ∷ []) ∙ none

no_fewer : (before : List Line) (x : Line) (c : ℕ) → lines_of before c ≤ lines_of (before ++ x ∷ []) c
no_fewer before x c = let e = more_of before x c in omega (arith, e)

one_more : (before : List Line) (x : Line) (c : ℕ) → x.client ≡ c → lines_of (before ++ x ∷ []) c ≡ lines_of before c + 1
one_more before x c e =
    more_of before x c ∙ ap (λ (t : Bool). lines_of before c + cond t 1 0) (eq-eqb x.client c e)

-- ---- tests in a row

shut : (a b c : Bool) → (a ≡ true → b ≡ false) → ((a && b) && c) ≡ false
shut false b c none = refl
shut true b c none = ap (λ (t : Bool). (true && t) && c) (none refl)

alike : (a b d c : Bool) → (a ≡ true → b ≡ d) → ((a && b) && c) ≡ ((a && d) && c)
alike false b d c same = refl
alike true b d c same = ap (λ (t : Bool). (true && t) && c) (same refl)

-- ---- the lines that open a label before a line

not_before : (line x : Line) (name : List ℕ) → (x.client ≡ line.client → line.number ≤ x.number) → opens_before line name x ≡ false
not_before line x name none =
    shut (x.client == line.client) (nat_lt x.number line.number) (is_opened_as name x.command)
    (λ e. le-ltb x.number line.number (none (eqb-true x.client line.client e)))

pub nothing_opens : (line : Line) (name : List ℕ) (before lines : List Line) → AreNumbered before lines → line.number ≤ lines_of before line.client + 1
    → filter (opens_before line name) lines ≡ []
nothing_opens line name before [] are few = refl
nothing_opens line name before (x ∷ rest) are few =
    let more = no_fewer before x line.client in
    let rest_none = nothing_opens line name (before ++ x ∷ []) rest are.2 (omega (arith, few, more)) in
    let out = not_before line x name (λ e. let n = ap (lines_of before) e in omega (arith, are.1, few, n)) in
    ap (λ (t : Bool). cond t (x ∷ filter (opens_before line name) rest) (filter (opens_before line name) rest)) out ∙ rest_none

floor : (before lines : List Line) (k : ℕ) (line : Line) → AreNumbered before lines → slice_get lines k ≡ Some line → lines_of before line.client + 1 ≤ line.number
floor before [] k line are at = absurd (none-some line at)
floor before (x ∷ rest) zero line are at =
    let e = same_Some x line at in
    subst (λ (l : Line). lines_of before l.client + 1 ≤ l.number) e (omega (arith, are.1))
floor before (x ∷ rest) (suc k) line are at =
    let up = floor (before ++ x ∷ []) rest k line are.2 at in
    let more = no_fewer before x line.client in
    omega (arith, up, more)

if_opens : Line → List ℕ → List Line
if_opens line name = cond (is_opened_as name line.command) (line ∷ []) []

one_opens : (line next : Line) (name : List ℕ) → next.client ≡ line.client → next.number ≡ line.number + 1
    → opens_before next name line ≡ is_opened_as name line.command
one_opens line next name same up =
    ap (λ (t : Bool). (t && nat_lt line.number next.number) && is_opened_as name line.command) (eq-eqb line.client next.client (sym same))
    ∙ ap (λ (t : Bool). (true && t) && is_opened_as name line.command) (lt-ltb line.number next.number (omega (arith, up)))

there_cond : (b : Bool) (x : Line) (xs ys : List Line) → cond b (x ∷ (xs ++ ys)) (xs ++ ys) ≡ cond b (x ∷ xs) xs ++ ys
there_cond false x xs ys = refl
there_cond true x xs ys = refl

first_opens : (line next : Line) (name : List ℕ) (before rest : List Line) → AreNumbered before (line ∷ rest)
    → next.client ≡ line.client → next.number ≡ line.number + 1
    → filter (opens_before next name) (line ∷ rest) ≡ filter (opens_before line name) (line ∷ rest) ++ if_opens line name
unfolding if_opens
first_opens line next name before rest are same up =
    let one = one_more before line line.client refl in
    let none_of : filter (opens_before next name) rest ≡ [] =
    nothing_opens next name (before ++ line ∷ []) rest are.2
    (let n = ap (lines_of (before ++ line ∷ [])) same in omega (arith, are.1, up, one, n)) in
    let none : filter (opens_before line name) rest ≡ [] =
    nothing_opens line name (before ++ line ∷ []) rest are.2 (omega (arith, are.1, one)) in
    let out = not_before line line name (λ e. let n : line.number ≤ line.number = omega arith in n) in
    ap (λ (t : Bool). cond t (line ∷ filter (opens_before next name) rest) (filter (opens_before next name) rest)) (one_opens line next name same up)
    ∙ ap (λ (l : List Line). cond (is_opened_as name line.command) (line ∷ l) l) none_of
    ∙ ap (λ (l : List Line). l ++ cond (is_opened_as name line.command) (line ∷ []) []) (sym none)
    ∙ ap (λ (t : Bool). cond t (line ∷ filter (opens_before line name) rest) (filter (opens_before line name) rest) ++ cond (is_opened_as name line.command) (line ∷ []) []) (sym out)

same_test : (line next x : Line) (name : List ℕ) → next.client ≡ line.client → next.number ≡ line.number + 1
    → (x.client ≡ line.client → x.number < line.number) → opens_before next name x ≡ opens_before line name x
same_test line next x name same up less =
    ap (λ (c : ℕ). ((x.client == c) && nat_lt x.number next.number) && is_opened_as name x.command) same
    ∙ alike (x.client == line.client) (nat_lt x.number next.number) (nat_lt x.number line.number) (is_opened_as name x.command)
    (λ e. let lt = less (eqb-true x.client line.client e) in
    lt-ltb x.number next.number (omega (arith, lt, up)) ∙ sym (lt-ltb x.number line.number lt))

last_opens : (line next : Line) (name : List ℕ) (before lines : List Line) (k : ℕ) → AreNumbered before lines → slice_get lines k ≡ Some line
    → next.client ≡ line.client → next.number ≡ line.number + 1
    → filter (opens_before next name) lines ≡ filter (opens_before line name) lines ++ if_opens line name
last_opens line next name before [] k are at same up = absurd (none-some line at)
last_opens line next name before (x ∷ rest) zero are at same up =
    let e = same_Some x line at in
    subst (λ (l : Line). filter (opens_before next name) (l ∷ rest) ≡ filter (opens_before line name) (l ∷ rest) ++ if_opens line name) (sym e)
    (first_opens line next name before rest (subst (λ (l : Line). AreNumbered before (l ∷ rest)) e are) same up)
last_opens line next name before (x ∷ rest) (suc k) are at same up =
    let whole = last_opens line next name (before ++ x ∷ []) rest k are.2 at same up in
    let above = floor (before ++ x ∷ []) rest k line are.2 at in
    let test = same_test line next x name same up
    (λ e. let one = one_more before x line.client e in let n = ap (lines_of before) e in omega (arith, are.1, one, n, above)) in
    ap (λ (t : Bool). cond t (x ∷ filter (opens_before next name) rest) (filter (opens_before next name) rest)) test
    ∙ ap (λ (l : List Line). cond (opens_before line name x) (x ∷ l) l) whole
    ∙ there_cond (opens_before line name x) x (filter (opens_before line name) rest) (if_opens line name)

last_of : (t : Bool) (xs : List Line) (line : Line) → last_in (xs ++ cond t (line ∷ []) []) ≡ cond t (Some line) (last_in xs)
last_of true xs line = fold-append (λ (before : Option Line) (x : Line). Some x) None xs (line ∷ [])
last_of false xs line = ap last_in (append-nil xs)

pub next_opening : (script : Script) (line next : Line) (name : List ℕ) (k : ℕ) → IsNumbered script → slice_get script.lines k ≡ Some line
    → next.client ≡ line.client → next.number ≡ line.number + 1
    → opening_line script next name ≡ cond (is_opened_as name line.command) (Some line) (opening_line script line name)
unfolding if_opens
next_opening script line next name k numbered at same up =
    ap last_in (last_opens line next name [] script.lines k numbered.in_order at same up)
    ∙ last_of (is_opened_as name line.command) (filter (opens_before line name) script.lines) line

pub no_opening : (script : Script) (line : Line) (name : List ℕ) → IsNumbered script → line.number ≤ 1 → opening_line script line name ≡ None
no_opening script line name numbered first =
    ap last_in (nothing_opens line name [] script.lines numbered.in_order (omega (arith, first)))

-- ---- a client's lines

pub record IsPlaced (before lines : List Line) (client place : ℕ) (line : Line) : Type 0 where
  pub its : line.client ≡ client
  pub number : line.number ≡ lines_of before client + place + 1
  pub there : Contains lines line
  pub known : 1 ≤ client

behind : (x : Line) (before rest : List Line) (client place more : ℕ) (line : Line) → lines_of (before ++ x ∷ []) client ≡ lines_of before client + more
    → IsPlaced (before ++ x ∷ []) rest client place line → IsPlaced before (x ∷ rest) client (more + place) line
behind x before rest client place more line up at = record {
  its = at.its;
  number = omega (arith, at.number, up);
  there = Contains-append_right (x ∷ []) rest line at.there;
  known = at.known;
}

at_front : (client : ℕ) (before : List Line) (x : Line) (rest : List Line) (line : Line) → AreNumbered before (x ∷ rest) → x.client ≡ client
    → ((p : ℕ) → slice_get (filter (λ (l : Line). l.client == client) rest) p ≡ Some line → IsPlaced (before ++ x ∷ []) rest client p line)
    → (place : ℕ) → slice_get (x ∷ filter (λ (l : Line). l.client == client) rest) place ≡ Some line → IsPlaced before (x ∷ rest) client place line
at_front client before x rest line are e later zero found =
    let n = ap (lines_of before) e in
    subst (λ (l : Line). IsPlaced before (x ∷ rest) client 0 l) (same_Some x line found) (record {
      its = e;
      number = omega (arith, are.1, n);
      there = (0, omega arith, refl);
      known = subst (λ (c : ℕ). 1 ≤ c) e are.0;
    })
at_front client before x rest line are e later (suc p) found =
    let n : 1 + p ≡ suc p = omega arith in
    subst (λ (n : ℕ). IsPlaced before (x ∷ rest) client n line) n
    (behind x before rest client p 1 line (one_more before x client e) (later p found))

placed_step : (client : ℕ) (before : List Line) (x : Line) (rest : List Line) (place : ℕ) (line : Line) → AreNumbered before (x ∷ rest)
    → ((p : ℕ) → slice_get (filter (λ (l : Line). l.client == client) rest) p ≡ Some line → IsPlaced (before ++ x ∷ []) rest client p line)
    → slice_get (filter (λ (l : Line). l.client == client) (x ∷ rest)) place ≡ Some line → IsPlaced before (x ∷ rest) client place line
placed_step client before x rest place line are later at = by (x.client == client) refl
  where
    by : (t : Bool) → (x.client == client) ≡ t → IsPlaced before (x ∷ rest) client place line
    by true its =
        at_front client before x rest line are (eqb-true x.client client its) later place
        (subst (λ (t : Bool). slice_get (cond t (x ∷ filter (λ (l : Line). l.client == client) rest) (filter (λ (l : Line). l.client == client) rest)) place ≡ Some line) its at)
    by false apart =
        let none : 0 + place ≡ place = omega arith in
        subst (λ (n : ℕ). IsPlaced before (x ∷ rest) client n line) none
        (behind x before rest client place 0 line (more_of before x client ∙ ap (λ (t : Bool). lines_of before client + cond t 1 0) apart)
        (later place (subst (λ (t : Bool). slice_get (cond t (x ∷ filter (λ (l : Line). l.client == client) rest) (filter (λ (l : Line). l.client == client) rest)) place ≡ Some line) apart at)))

pub placed : (client : ℕ) (before lines : List Line) (place : ℕ) (line : Line) → AreNumbered before lines
    → slice_get (filter (λ (l : Line). l.client == client) lines) place ≡ Some line → IsPlaced before lines client place line
placed client before [] place line are at = absurd (none-some line at)
placed client before (x ∷ rest) place line are at =
    placed_step client before x rest place line are (λ p found. placed client (before ++ x ∷ []) rest p line are.2 found) at
