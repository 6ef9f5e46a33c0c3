-- The lines of a client are passed, and the clients one after the other.
use Rattle.std.proofs.Common.{◌≡◌, ℕ, zero, suc, ◌+◌, ◌<◌, ◌≤◌, Bool, true, false, List, [], ◌∷◌, length, get_or, Option, Some, None, refl, sym, ap, ◌∙◌, subst, arith, inl, inr}
use Rattle.std.specs.Prelude.{◌⊎◌, min}
use Rattle.std.specs.List.{slice_get}
use Rattle.std.specs.Option.{IsSomeAnd, is_some}
use Rattle.std.proofs.lemmas.List.{get_or_default}
use Rattle.std.proofs.lemmas.Option.{slice_get_within, slice_get-get_or}
use Rattle.oz_script.specs.declared.circles.waits.Waits.{Waits}
use Rattle.oz_script.specs.circles.Circles.{Leads, LeadsTo, ComesBack, IsFirstBack}
use Rattle.oz_script.specs.circles.Marks.{IsMarked, IsClosed, MarksAll, IsFirstOf, earlier}
use Rattle.oz_script.specs.circles.Waiting.{IsOf, IsBefore, WaitsFor, AreChained}
use Rattle.oz_script.proofs.circles_lemmas.Ways.{at_some, from_some, the_some, join, spreads, same_or_less, back}

pub within : (lines : List Waits) (P : Waits → Type 0) (line : ℕ) → IsSomeAnd (slice_get lines line) P → line < length lines
within lines P line h = let w = the_some P (slice_get lines line) h in slice_get_within lines line w.0 w.1

below : (a b : ℕ) → a < b + 1 → (a < b) ⊎ (a ≡ b)
below a b lt = elim (same_or_less a b (omega arith)) [ inl e ↦ inr e | inr less ↦ inl less ]

-- ---- the lines of one client

-- what stands once so many lines are passed: what they lead to is marked, and none of them comes back
pub record IsPassed (lines : List Waits) (client : ℕ) (marks : List Bool) (passed : ℕ) : Type 0 where
  pub long : length marks ≡ length lines
  pub closed : IsClosed lines marks
  pub led : (place : ℕ) → IsMarked marks place → (from : ℕ) × (from < passed) × IsOf lines from client × LeadsTo (WaitsFor lines) from place
  pub gone : (place : ℕ) → place < passed → IsOf lines place client → ComesBack (WaitsFor lines) place → ⊥

pub passed_none : (lines : List Waits) (client : ℕ) (marks : List Bool) → length marks ≡ length lines → ((place : ℕ) → get_or marks place false ≡ false) → IsPassed lines client marks 0
passed_none lines client marks long none =
    let no : (place : ℕ) → IsMarked marks place → ⊥ = λ (place : ℕ) (m : IsMarked marks place). let e = none place in absurd (cc (e, m)) in
    record {
      long = long;
      closed = λ (line other : ℕ) (m : IsMarked marks line) (w : WaitsFor lines line other). absurd (no line m);
      led = λ (place : ℕ) (m : IsMarked marks place). absurd (no place m);
      gone = λ (place : ℕ) (lt : place < 0) (is_of : IsOf lines place client) (b : ComesBack (WaitsFor lines) place). omega arith;
    }

pub passed_other : (lines : List Waits) (client : ℕ) (marks : List Bool) (k : ℕ) → IsPassed lines client marks k → (IsOf lines k client → ⊥) → IsPassed lines client marks (k + 1)
passed_other lines client marks k i other = record {
  long = i.long;
  closed = i.closed;
  led = λ (place : ℕ) (m : IsMarked marks place). let l = i.led place m in (l.0, omega (arith, l.1), l.2, l.3);
  gone = λ (place : ℕ) (lt : place < k + 1) (is_of : IsOf lines place client) (b : ComesBack (WaitsFor lines) place). elim (below place k lt) [
    | inl less ↦ i.gone place less is_of b
    | inr same ↦ other (subst (λ (x : ℕ). IsOf lines x client) same is_of)
  ];
}

marked_if : (lines : List Waits) (k : ℕ) (marks next : List Bool) → MarksAll lines k marks next → ComesBack (WaitsFor lines) k → IsMarked next k
marked_if lines k marks next m b = spreads (WaitsFor lines) (IsMarked next) m.closed k b.0 k m.first b.1

pub passed_own : (lines : List Waits) (client : ℕ) (marks next : List Bool) (k : ℕ) → IsPassed lines client marks k → MarksAll lines k marks next → IsOf lines k client → get_or next k false ≡ false → IsPassed lines client next (k + 1)
passed_own lines client marks next k i m own free = record {
  long = m.long ∙ i.long;
  closed = m.closed;
  led = λ (place : ℕ) (marked : IsMarked next place). elim (m.new place marked) [
    | inl before ↦ (let l = i.led place before in (l.0, omega (arith, l.1), l.2, l.3))
    | inr led ↦ (k, omega arith, own, led)
  ];
  gone = λ (place : ℕ) (lt : place < k + 1) (is_of : IsOf lines place client) (b : ComesBack (WaitsFor lines) place). elim (below place k lt) [
    | inl less ↦ i.gone place less is_of b
    | inr same ↦ (let marked = marked_if lines k marks next m (subst (λ (x : ℕ). ComesBack (WaitsFor lines) x) same b) in absurd (cc (marked, free)))
  ];
}

pub found_own : (lines : List Waits) (client : ℕ) (marks next : List Bool) (k : ℕ) → AreChained lines → IsPassed lines client marks k → MarksAll lines k marks next → IsOf lines k client → get_or next k false ≡ true → IsFirstOf lines client (Some k)
found_own lines client marks next k chained i m own marked =
    let comes : ComesBack (WaitsFor lines) k = elim (m.new k marked) [
      | inl before ↦ (let l = i.led k before in join (WaitsFor lines) k l.0 k (back lines chained (k + 1) k l.0 client (omega arith) own l.2 l.1) l.3)
      | inr led ↦ led
    ] in
    (own, comes, i.gone)

pub passed_all : (lines : List Waits) (client : ℕ) (marks : List Bool) (k : ℕ) → IsPassed lines client marks k → length lines ≤ k → IsFirstOf lines client None
passed_all lines client marks k i past = λ (line : ℕ) (is_of : IsOf lines line client) (b : ComesBack (WaitsFor lines) line).
    i.gone line (omega (arith, within lines (λ (w : Waits). w.client ≡ client) line is_of)) is_of b

-- ---- all clients

abbrev pub IsStart : List Waits → ℕ → Type 0
IsStart lines line = IsSomeAnd (slice_get lines line) (λ w. w.before ≡ None)

-- the first line of its client is among so many
abbrev pub IsStarted : List Waits → ℕ → ℕ → Type 0
IsStarted lines passed line = (start : ℕ) × (client : ℕ) × (start < passed) × IsStart lines start × IsOf lines start client × IsOf lines line client

abbrev pub IsFirstSo : List Waits → ℕ → Option ℕ → Type 0
IsFirstSo lines passed None = (line : ℕ) → IsStarted lines passed line → ComesBack (WaitsFor lines) line → ⊥
IsFirstSo lines passed (Some first) = ComesBack (WaitsFor lines) first × ((line : ℕ) → line < first → IsStarted lines passed line → ComesBack (WaitsFor lines) line → ⊥)

pub so_none : (lines : List Waits) → IsFirstSo lines 0 None
so_none lines = λ (line : ℕ) (s : IsStarted lines 0 line) (b : ComesBack (WaitsFor lines) line). omega (arith, s.2)

the_client : (lines : List Waits) (line one other : ℕ) → IsOf lines line one → IsOf lines line other → one ≡ other
the_client lines line one other h k =
    let w = the_some (λ (w : Waits). w.client ≡ one) (slice_get lines line) h in
    sym w.2 ∙ from_some (λ (w : Waits). w.client ≡ other) (slice_get lines line) w.0 w.1 k

one_more : (lines : List Waits) (k client line : ℕ) → IsOf lines k client → IsStarted lines (k + 1) line → IsStarted lines k line ⊎ IsOf lines line client
one_more lines k client line own s = elim (below s.0 k s.2) [
  | inl less ↦ inl (s.0, s.1, less, s.3, s.4, s.5)
  | inr same ↦ inr (subst (λ (c : ℕ). IsOf lines line c) (the_client lines k s.1 client (subst (λ (x : ℕ). IsOf lines x s.1) same s.4) own) s.5)
]

no_more : (lines : List Waits) (k line : ℕ) → (IsStart lines k → ⊥) → IsStarted lines (k + 1) line → IsStarted lines k line
no_more lines k line none s = elim (below s.0 k s.2) [
  | inl less ↦ (s.0, s.1, less, s.3, s.4, s.5)
  | inr same ↦ absurd (none (subst (λ (x : ℕ). IsStart lines x) same s.3))
]

pub so_same : (lines : List Waits) (k : ℕ) (first : Option ℕ) → (IsStart lines k → ⊥) → IsFirstSo lines k first → IsFirstSo lines (k + 1) first
so_same lines k None none i = λ (line : ℕ) (s : IsStarted lines (k + 1) line) (b : ComesBack (WaitsFor lines) line). i line (no_more lines k line none s) b
so_same lines k (Some first) none i = (i.0, λ (line : ℕ) (lt : line < first) (s : IsStarted lines (k + 1) line) (b : ComesBack (WaitsFor lines) line). i.1 line lt (no_more lines k line none s) b)

le_or : (a b : ℕ) → (a ≤ b) ⊎ (b ≤ a)
le_or zero b = inl (omega arith)
le_or (suc a) zero = inr (omega arith)
le_or (suc a) (suc b) = elim (le_or a b) [ inl le ↦ inl (omega arith) | inr le ↦ inr (omega arith) ]

pub so_earlier : (lines : List Waits) (k client : ℕ) (first found : Option ℕ) → IsOf lines k client → IsFirstSo lines k first → IsFirstOf lines client found → IsFirstSo lines (k + 1) (earlier first found)
so_earlier lines k client None None own i f =
    λ (line : ℕ) (s : IsStarted lines (k + 1) line) (b : ComesBack (WaitsFor lines) line). elim (one_more lines k client line own s) [ inl old ↦ i line old b | inr new ↦ f line new b ]
so_earlier lines k client None (Some found) own i f =
    (f.1, λ (line : ℕ) (lt : line < found) (s : IsStarted lines (k + 1) line) (b : ComesBack (WaitsFor lines) line). elim (one_more lines k client line own s) [ inl old ↦ i line old b | inr new ↦ f.2 line lt new b ])
so_earlier lines k client (Some first) None own i f =
    (i.0, λ (line : ℕ) (lt : line < first) (s : IsStarted lines (k + 1) line) (b : ComesBack (WaitsFor lines) line). elim (one_more lines k client line own s) [ inl old ↦ i.1 line lt old b | inr new ↦ f line new b ])
so_earlier lines k client (Some first) (Some found) own i f =
    let comes : ComesBack (WaitsFor lines) (min first found) = elim (le_or first found) [
      | inl le ↦ (let e : first ≡ min first found = omega arith in subst (λ (x : ℕ). ComesBack (WaitsFor lines) x) e i.0)
      | inr le ↦ (let e : found ≡ min first found = omega arith in subst (λ (x : ℕ). ComesBack (WaitsFor lines) x) e f.1)
    ] in (
      comes,
      λ (line : ℕ) (lt : line < min first found) (s : IsStarted lines (k + 1) line) (b : ComesBack (WaitsFor lines) line). elim (one_more lines k client line own s) [
        | inl old ↦ i.1 line (omega arith) old b
        | inr new ↦ f.2 line (omega arith) new b
      ],
    )

-- a client's line has a first line of its client at or before it
pub record Start (lines : List Waits) (line client : ℕ) : Type 0 where
  pub start : ℕ
  pub up_to : start ≤ line
  pub is_start : IsStart lines start
  pub own : IsOf lines start client

start_here : (lines : List Waits) (line client : ℕ) (w : Waits) (before : Option ℕ) → slice_get lines line ≡ Some w → w.before ≡ before → IsOf lines line client
    → ((b : ℕ) → IsBefore lines line b → Start lines line client) → Start lines line client
start_here lines line client w None at is own on =
    record { start = line; up_to = omega arith; is_start = at_some (λ (w : Waits). w.before ≡ None) (slice_get lines line) w at is; own = own }
start_here lines line client w (Some b) at is own on = on b (at_some (λ (w : Waits). w.before ≡ Some b) (slice_get lines line) w at is)

started : (lines : List Waits) (chained : AreChained lines) (fuel line client : ℕ) → line < fuel → IsOf lines line client → Start lines line client
started lines chained zero line client few own = absurd (omega arith)
started lines chained (suc fuel) line client few own =
    let w = the_some (λ (w : Waits). w.client ≡ client) (slice_get lines line) own in
    start_here lines line client w.0 w.0.before w.1 refl own (λ (b : ℕ) (is : IsBefore lines line b).
    let e = chained.earlier line b is in
    let s = started lines chained fuel b client (omega (arith, e.0)) (e.1 client own) in
    let le : s.start ≤ line = omega (arith, e.0, s.up_to) in
    record { start = s.start; up_to = le; is_start = s.is_start; own = s.own })

-- a line that comes back waits for one, so it is a line
is_line : (lines : List Waits) (line : ℕ) (between : List ℕ) (to : ℕ) → Leads (WaitsFor lines) line between to → (w : Waits) × (slice_get lines line ≡ Some w)
is_line lines line [] to b = let w = the_some (λ (w : Waits). (w.before ≡ Some to) ⊎ (w.after ≡ Some to)) (slice_get lines line) b in (w.0, w.1)
is_line lines line (x ∷ between) to b = let w = the_some (λ (w : Waits). (w.before ≡ Some x) ⊎ (w.after ≡ Some x)) (slice_get lines line) b.0 in (w.0, w.1)

all_started : (lines : List Waits) (k line : ℕ) → AreChained lines → length lines ≤ k → ComesBack (WaitsFor lines) line → IsStarted lines k line
all_started lines k line chained past b =
    let w = is_line lines line b.0 line b.1 in
    let own = at_some (λ (x : Waits). x.client ≡ w.0.client) (slice_get lines line) w.0 w.1 refl in
    let s = started lines chained (line + 1) line w.0.client (omega arith) own in
    let lt : s.start < k = omega (arith, s.up_to, slice_get_within lines line w.0 w.1) in
    (s.start, w.0.client, lt, s.is_start, s.own, own)

pub so_all : (lines : List Waits) (k : ℕ) (first : Option ℕ) → AreChained lines → length lines ≤ k → IsFirstSo lines k first → IsFirstBack (WaitsFor lines) first
so_all lines k None chained past i = λ (line : ℕ) (b : ComesBack (WaitsFor lines) line). i line (all_started lines k line chained past b) b
so_all lines k (Some first) chained past i = (i.0, λ (line : ℕ) (lt : line < first) (b : ComesBack (WaitsFor lines) line). i.1 line lt (all_started lines k line chained past b) b)

-- ---- what is read at a place

pub own_at : (lines : List Waits) (line client : ℕ) (d : Waits) → line < length lines → (get_or lines line d).client ≡ client → IsOf lines line client
own_at lines line client d lt e = at_some (λ (w : Waits). w.client ≡ client) (slice_get lines line) (get_or lines line d) (slice_get-get_or lines line d lt) e

pub start_at : (lines : List Waits) (line : ℕ) (d : Waits) → line < length lines → (get_or lines line d).before ≡ None → IsStart lines line
start_at lines line d lt e = at_some (λ (w : Waits). w.before ≡ None) (slice_get lines line) (get_or lines line d) (slice_get-get_or lines line d lt) e

pub no_start : (lines : List Waits) (line : ℕ) (d : Waits) → line < length lines → is_some (get_or lines line d).before ≡ true → IsStart lines line → ⊥
no_start lines line d lt e s =
    let none : (get_or lines line d).before ≡ None = from_some (λ (w : Waits). w.before ≡ None) (slice_get lines line) (get_or lines line d) (slice_get-get_or lines line d lt) s in
    absurd (cc (e, none))

pub mark_read : (marks read : List Bool) (line : ℕ) (mark : Bool) → read ≡ marks → line < length marks → mark ≡ get_or read line mark → get_or marks line false ≡ mark
mark_read marks read line mark is lt e = get_or_default marks line false mark lt ∙ sym (e ∙ ap (λ (l : List Bool). get_or l line mark) is)
