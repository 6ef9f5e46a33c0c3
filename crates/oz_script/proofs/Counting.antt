-- How the lines of each client are numbered, by their places.
use Rattle.std.proofs.Common.{◌≡◌, ℕ, zero, suc, ◌+◌, ◌<◌, ◌≤◌, Bool, cond, List, [], ◌∷◌, ◌++◌, length, take, drop, get_or, Option, Some, None, refl, sym, ap, subst, ◌∙◌, append_assoc, arith, inl, inr}
use Rattle.std.specs.Prelude.{◌⊎◌, ◌==◌}
use Rattle.std.specs.List.{slice_get}
use Rattle.std.specs.Option.{IsSomeAnd}
use Rattle.std.proofs.lemmas.Bool.{cases_eq, eq-eqb, ne_eqb}
use Rattle.std.proofs.lemmas.List.{append-nil, take-append-drop, take-take, take_more}
use Rattle.std.proofs.lemmas.List.Sums.{sum_by-append, sum_by_push}
use Rattle.std.proofs.lemmas.Option.{slice_get_within, get_or_from_slice_get, slice_get-get_or, same_Some}
use Rattle.oz_script.specs.declared.lines.script.Line.{Line}
use Rattle.oz_script.specs.lines.Numbered.{lines_of, AreNumbered}

pub the_some : {A : Type 0} (P : A → Type 0) (found : Option A) → IsSomeAnd found P → (x : A) × (found ≡ Some x) × P x
the_some P None h = absurd h
the_some P (Some x) h = (x, refl, h)

pub at_some : {A : Type 0} (P : A → Type 0) (found : Option A) (x : A) → found ≡ Some x → P x → IsSomeAnd found P
at_some P found x e h = subst (λ (o : Option _). IsSomeAnd o P) (sym e) h

pub from_some : {A : Type 0} (P : A → Type 0) (found : Option A) (x : A) → found ≡ Some x → IsSomeAnd found P → P x
from_some P found x e h = subst (λ (o : Option _). IsSomeAnd o P) e h

pub numbered_at : (before lines : List Line) (at : ℕ) (line : Line) → AreNumbered before lines → slice_get lines at ≡ Some line
    → line.number ≡ lines_of (before ++ take at lines) line.client + 1
numbered_at before [] at line n e = absurd (cc)
numbered_at before (first ∷ rest) zero line n e =
    let same : first ≡ line = same_Some first line e in
    subst (λ (l : Line). l.number ≡ lines_of (before ++ []) l.client + 1) same (n.1 ∙ ap (λ (l : List Line). lines_of l first.client + 1) (sym (append-nil before)))
numbered_at before (first ∷ rest) (suc at) line n e =
    numbered_at (before ++ first ∷ []) rest at line n.2 e ∙ ap (λ (l : List Line). lines_of l line.client + 1) (append_assoc before (first ∷ []) (take at rest))

count : ℕ → Line → ℕ
count client line = cond (line.client == client) 1 0

one_more : (lines : List Line) (at : ℕ) (line : Line) (client : ℕ) → slice_get lines at ≡ Some line → lines_of (take (at + 1) lines) client ≡ lines_of (take at lines) client + count client line
unfolding count
one_more lines at line client e =
    ap (λ (l : List Line). lines_of l client) (take_more lines at line (slice_get_within lines at line e) ∙ ap (λ (x : Line). take at lines ++ x ∷ []) (get_or_from_slice_get lines at line line e))
    ∙ sum_by_push (λ (l : Line). cond (l.client == client) 1 0) (take at lines) line

grows : (lines : List Line) (client i j : ℕ) → i ≤ j → lines_of (take i lines) client ≤ lines_of (take j lines) client
grows lines client i j le =
    let counts : List Line → ℕ = λ l. lines_of l client in
    let split = ap counts (take-append-drop i (take j lines)) in
    let same = ap counts (take-take i j lines le) in
    let sum = sum_by-append (λ (l : Line). cond (l.client == client) 1 0) (take i (take j lines)) (drop i (take j lines)) in
    omega (arith, split, same, sum)

one : (client : ℕ) (line : Line) → line.client ≡ client → count client line ≡ 1
unfolding count
one client line e = ap (λ (b : Bool). cond b 1 0) (eq-eqb line.client client e)

none : (client : ℕ) (line : Line) → (line.client ≡ client → ⊥) → count client line ≡ 0
unfolding count
none client line e = ap (λ (b : Bool). cond b 1 0) (ne_eqb line.client client e)

-- a client's later line has a greater number
pub greater : (lines : List Line) (i j : ℕ) (early late : Line) → AreNumbered [] lines → i < j → slice_get lines i ≡ Some early → slice_get lines j ≡ Some late → early.client ≡ late.client → early.number < late.number
greater lines i j early late n lt at_i at_j same =
    let first = numbered_at [] lines i early n at_i in
    let second = numbered_at [] lines j late n at_j in
    let more = one_more lines i early late.client at_i in
    let is_one = one late.client early same in
    let on = grows lines late.client (i + 1) j (omega arith) in
    let first_there : lines_of (take i lines) early.client ≡ lines_of (take i lines) late.client = ap (λ (c : ℕ). lines_of (take i lines) c) same in
    omega (arith, first, second, more, is_one, on, first_there)

less_or : (a b : ℕ) → (a < b) ⊎ (b ≤ a)
less_or zero zero = inr (omega arith)
less_or zero (suc b) = inl (omega arith)
less_or (suc a) zero = inr (omega arith)
less_or (suc a) (suc b) = elim (less_or a b) [ inl lt ↦ inl (omega arith) | inr le ↦ inr (omega arith) ]

-- no two lines have one name
pub only_one : (lines : List Line) (i j : ℕ) (one other : Line) → AreNumbered [] lines → slice_get lines i ≡ Some one → slice_get lines j ≡ Some other → one.client ≡ other.client → one.number ≡ other.number → i ≡ j
only_one lines i j one other n at_i at_j client number = elim (less_or i j) [
  | inl lt ↦ (let g = greater lines i j one other n lt at_i at_j client in absurd (omega (arith, g, number)))
  | inr le ↦ elim (less_or j i) [
    | inl lt ↦ (let g = greater lines j i other one n lt at_j at_i (sym client) in absurd (omega (arith, g, number)))
    | inr ge ↦ omega arith
  ]
]

-- the one before, which a later number says
pub earlier : (lines : List Line) (i j : ℕ) (early late : Line) → AreNumbered [] lines → slice_get lines i ≡ Some early → slice_get lines j ≡ Some late → early.client ≡ late.client → early.number + 1 ≡ late.number → i < j
earlier lines i j early late n at_i at_j client number = elim (less_or i j) [
  | inl lt ↦ lt
  | inr le ↦ elim (less_or j i) [
    | inl lt ↦ (let g = greater lines j i late early n lt at_j at_i (sym client) in absurd (omega (arith, g, number)))
    | inr ge ↦ (
        let same : i ≡ j = omega arith in
        let e : early ≡ late = same_Some early late (sym at_i ∙ ap (slice_get lines) same ∙ at_j) in
        let number_same : early.number ≡ late.number = ap (λ (l : Line). l.number) e in
        absurd (omega (arith, number, number_same)))
  ]
]

pub record Nearest (lines : List Line) (client from to : ℕ) : Type 0 where
  pub at : ℕ
  pub line : Line
  pub not_before : from ≤ at
  pub below : at < to
  pub is : slice_get lines at ≡ Some line
  pub own : line.client ≡ client
  pub counted : lines_of (take at lines) client + 1 ≡ lines_of (take to lines) client

-- among the lines from one of a client on, the last of it
pub nearest : (lines : List Line) (client from to : ℕ) (line : Line) → from < to → to ≤ length lines → slice_get lines from ≡ Some line → line.client ≡ client → Nearest lines client from to
nearest lines client from zero line lt le is own = absurd (omega arith)
nearest lines client from (suc to) line lt le is own =
    let last = get_or lines to line in
    let at_to : slice_get lines to ≡ Some last = slice_get-get_or lines to line (omega arith) in
    let next : suc to ≡ to + 1 = omega arith in
    let counts : ℕ → ℕ = λ k. lines_of (take k lines) client in
    let more : counts (suc to) ≡ counts to + count client last = ap counts next ∙ one_more lines to last client at_to in
    elim (cases_eq last.client client) [
      | inl same ↦ (
          let is_one = one client last same in
          record { at = to; line = last; not_before = omega arith; below = omega arith; is = at_to; own = same; counted = omega (arith, more, is_one) })
      | inr other ↦ (
          let apart : from ≡ to → ⊥ = λ (e : from ≡ to). other (ap (λ (l : Line). l.client) (same_Some last line (sym at_to ∙ ap (slice_get lines) (sym e) ∙ is)) ∙ own) in
          let before : from < to = elim (less_or from to) [ inl l ↦ l | inr ge ↦ absurd (apart (omega arith)) ] in
          let found = nearest lines client from to line before (omega arith) is own in
          let is_none = none client last other in
          let below : found.at < suc to = omega (arith, found.below) in
          record { at = found.at; line = found.line; not_before = found.not_before; below = below; is = found.is; own = found.own; counted = omega (arith, found.counted, more, is_none) })
    ]

-- its number is the one before that of the next
pub nearest_number : (lines : List Line) (from to : ℕ) (line : Line) → AreNumbered [] lines → slice_get lines to ≡ Some line → (near : Nearest lines line.client from to) → near.line.number + 1 ≡ line.number
nearest_number lines from to line n at near =
    let first = numbered_at [] lines near.at near.line n near.is in
    let second = numbered_at [] lines to line n at in
    let there : lines_of (take near.at lines) near.line.client ≡ lines_of (take near.at lines) line.client = ap (λ (c : ℕ). lines_of (take near.at lines) c) near.own in
    omega (arith, first, second, there, near.counted)
