-- How stretches of time join.
use Rattle.std.proofs.Common.{◌≡◌, ◌⊎◌, inl, inr, ℕ, ◌+◌, ◌<◌, ◌≤◌, List, Result, Ok, IsErr, is_err, sym, ◌∙◌, ap}
use Rattle.std.proofs.Common.{subst, arith}
use Rattle.std.proofs.lemmas.Bool.{cases_lt, false≢true}
use Rattle.oz_world.specs.Disk.{Images, Same, Stands, Ticks, IsStable, last_moment}
use Rattle.oz_world.specs.Moments.{Elapses, Spans, LeavesOnly}

abbrev Step : Type 1
Step = List ℕ → List ℕ → Type 0

pub elapses_then : (a b c : ℕ) (i j k : Images) → Elapses a b i j → Elapses b c j k → Elapses a c i k
elapses_then a b c i j k first second = record {
  later = omega (arith, first.later, second.later);
  kept = λ t left le.
      let one = first.kept t left le in
      let two = second.kept t left (omega (arith, le, first.later)) in
      (λ h. one.0 (two.0 h), λ h. two.1 (one.1 h));
}

-- nothing happens
pub stands_span : (step : Step) (a b : ℕ) (i j : Images) → Stands a b i j → Spans step a b i j
stands_span step a b i j stands = record {
  elapses = record { later = omega (arith, stands.moment); kept = λ t left le. stands.images t left };
  made = λ t after past by h. absurd (omega (arith, past, by, stands.moment));
}

ticks_span : (step : Step) (a b : ℕ) (i j : Images) → Ticks step a b i j → Spans step a b i j
ticks_span step a b i j ticks = record {
  elapses = record { later = omega (arith, ticks.later); kept = ticks.kept };
  made = λ t after past by h.
      let last : t ≡ b = omega (arith, past, by, ticks.later) in
      ticks.made after (subst (λ (n : ℕ). j n after) last h);
}

-- one call that lets a moment pass, or none where the clock stands
pub call_spans : {X Y : Type 0} (step : Step) (a b : ℕ) (i j : Images) → (a < last_moment → Ticks step a b i j)
    → (last_moment ≤ a → X × Y × Stands a b i j) → Spans step a b i j
call_spans step a b i j time no_time = elim (cases_lt a last_moment) [
  | inl before ↦ ticks_span step a b i j (time before)
  | inr last ↦ stands_span step a b i j (no_time last).2
]

-- an image of the moment where a stretch ends
at_end : (step : Step) (a b : ℕ) (i j : Images) → Spans step a b i j → (left : List ℕ) → j b left
    → i a left ⊎ ((bytes : List ℕ) × i a bytes × step bytes left)
at_end step a b i j spans left h = elim (cases_lt a b) [
  | inl later ↦ inr (spans.made b left later (omega arith) h)
  | inr none ↦
      let same : b ≡ a = omega (arith, none, spans.elapses.later) in
      inl ((spans.elapses.kept a left (omega arith)).0 (subst (λ (n : ℕ). j n left) same h))
]

-- two stretches whose steps come to one
pub spans_then : (one two both : Step) (a b c : ℕ) (i j k : Images) → ((x y : List ℕ) → one x y → both x y)
    → ((x y : List ℕ) → two x y → both x y) → ((x y z : List ℕ) → one x y → two y z → both x z)
    → Spans one a b i j → Spans two b c j k → Spans both a c i k
spans_then one two both a b c i j k from_one from_two from_both first second = record {
  elapses = elapses_then a b c i j k first.elapses second.elapses;
  made = λ t after past by h. elim (cases_lt b t) [
    | inl later ↦ last t after later by h
    | inr sooner ↦
        let found = first.made t after past sooner ((second.elapses.kept t after sooner).0 h) in
        (found.0, found.1, from_one found.0 after found.2)
  ];
}
  where
    last : (t : ℕ) (after : List ℕ) → b < t → t ≤ c → k t after → (bytes : List ℕ) × i a bytes × both bytes after
    last t after later by h =
        let found = second.made t after later by h in
        elim (at_end one a b i j first found.0 found.1) [
          | inl here ↦ (found.0, here, from_two found.0 after found.2)
          | inr before ↦ (before.0, before.1, from_both before.0 found.0 after before.2 found.2)
        ]

-- a stretch in which nothing changes, after one whose step may be none
pub spans_still : (step : Step) (a b c : ℕ) (i j k : Images) → ((x : List ℕ) → step x x) → Spans step a b i j
    → Spans Same b c j k → Spans step a c i k
spans_still step a b c i j k none first second =
    spans_then step Same step a b c i j k (λ x y h. h) (λ x y same. subst (λ (l : List ℕ). step x l) (sym same) (none x))
    (λ x y z h same. subst (λ (l : List ℕ). step x l) (sym same) h) first second

-- the images of a stretch that begins stable
pub spans_leave : (step : Step) (a b : ℕ) (i j : Images) (bytes : List ℕ) → IsStable i a bytes → step bytes bytes
    → Spans step a b i j → LeavesOnly (step bytes) a b j
spans_leave step a b i j bytes stable none spans t left from by h = elim (cases_lt a t) [
  | inl later ↦
      let found = spans.made t left later by h in
      subst (λ (l : List ℕ). step l left) (stable found.0 found.1) found.2
  | inr first ↦
      let same : t ≡ a = omega (arith, first, from) in
      let is : left ≡ bytes = stable left ((spans.elapses.kept a left (omega arith)).0 (subst (λ (n : ℕ). j n left) same h)) in
      subst (λ (l : List ℕ). step bytes l) (sym is) none
]

-- the images of two stretches, one after the other
pub leave_then : (P Q R : List ℕ → Type 0) (a b c : ℕ) (j k : Images) → ((left : List ℕ) → P left → R left)
    → ((left : List ℕ) → Q left → R left) → Elapses b c j k → LeavesOnly P a b j → LeavesOnly Q b c k
    → LeavesOnly R a c k
leave_then P Q R a b c j k from_first from_second elapses first second t left from by h = elim (cases_lt b t) [
  | inl later ↦ from_second left (second t left (omega (arith, later)) by h)
  | inr sooner ↦ from_first left (first t left from sooner ((elapses.kept t left sooner).0 h))
]

-- a call that succeeded took a moment
pub took_a_moment : {T E : Type 0} (result : Result T E) (value : T) (step : List ℕ → List ℕ → Type 0) (before now : ℕ) (old new : Images)
    → result ≡ Ok value → (before < last_moment → Ticks step before now old new)
    → (last_moment ≤ before → IsErr result) → now ≡ before + 1
took_a_moment result value step before now old new is ticks ended = elim (cases_lt before last_moment) [
  | inl lt ↦ (ticks lt).later
  | inr ge ↦ absurd (false≢true (sym (ap is_err is) ∙ ended ge))
]
