-- One line after the other is marked.
use Rattle.std.proofs.Common.{◌≡◌, ℕ, ◌+◌, ◌<◌, Bool, true, false, cond, List, [], ◌∷◌, ◌++◌, length, get_or, Option, Some, refl, sym, ap, ◌∙◌, subst, arith, inl, inr}
use Rattle.std.specs.Prelude.{◌⊎◌, not, slice_set, Contains}
use Rattle.std.specs.List.{slice_get}
use Rattle.std.proofs.lemmas.Bool.{cases_eq}
use Rattle.std.proofs.lemmas.List.{length-set, length-append, get_or-set_same, get_or-set_other}
use Rattle.std.proofs.lemmas.List.Elements.{Contains-push, Contains-push_cases, Contains-append_left}
use Rattle.std.proofs.lemmas.List.Sums.{sum_by-set}
use Rattle.oz_script.specs.declared.circles.waits.Waits.{Waits}
use Rattle.oz_script.specs.circles.Circles.{LeadsTo}
use Rattle.oz_script.specs.circles.Marks.{IsMarked, unmarked, IsClosed, MarksOne, MarksAll}
use Rattle.oz_script.specs.circles.Waiting.{WaitsFor, AreChained}
use Rattle.oz_script.proofs.circles_lemmas.Ways.{waits, waits_by, join}

some_same : (a b : ℕ) → (let s : Option ℕ = Some a in s) ≡ Some b → a ≡ b
some_same a b e = cc

fewer : (marks : List Bool) (place : ℕ) → place < length marks → get_or marks place false ≡ false → unmarked (slice_set marks place true) + 1 ≡ unmarked marks
fewer marks place lt e =
    let count : Bool → ℕ = λ mark. cond (not mark) 1 0 in
    let s = sum_by-set count marks place true false lt in
    let one : count (get_or marks place false) ≡ count false = ap count e in
    omega (arith, s, one)

pub marked_one : (marks : List Bool) (place : ℕ) (stack longer : List ℕ) → place < length marks → get_or marks place false ≡ false → longer ≡ stack ++ place ∷ []
    → MarksOne (Some place) marks (slice_set marks place true) stack longer
marked_one marks place stack longer lt e is = record {
  long = length-set marks place true;
  kept = λ (x : ℕ) (m : IsMarked marks x). elim (cases_eq x place) [
    | inl same ↦ subst (λ (k : ℕ). get_or (slice_set marks place true) k false ≡ true) (sym same) (get_or-set_same marks place true false lt)
    | inr other ↦ get_or-set_other marks place x true false other ∙ m
  ];
  there = λ (x : ℕ) (same : Some place ≡ Some x). subst (λ (k : ℕ). get_or (slice_set marks place true) k false ≡ true) (some_same place x same) (get_or-set_same marks place true false lt);
  new = λ (x : ℕ) (m : IsMarked (slice_set marks place true) x). elim (cases_eq x place) [
    | inl same ↦ inr (ap (λ (k : ℕ). let s : Option ℕ = Some k in s) (sym same), subst (λ (l : List ℕ). Contains l x) (sym is) (subst (λ (k : ℕ). Contains (stack ++ k ∷ []) x) same (Contains-push stack x)))
    | inr other ↦ inl (sym (get_or-set_other marks place x true false other) ∙ m)
  ];
  on = λ (x : ℕ) (c : Contains stack x). subst (λ (l : List ℕ). Contains l x) (sym is) (Contains-append_left stack (place ∷ []) x c);
  only = λ (x : ℕ) (c : Contains longer x). elim (Contains-push_cases stack place x (subst (λ (l : List ℕ). Contains l x) is c)) [
    | inl old ↦ inl old
    | inr same ↦ inr (ap (λ (k : ℕ). let s : Option ℕ = Some k in s) same)
  ];
  less = omega (arith, fewer marks place lt e, ap length is, length-append stack (place ∷ []));
}

-- what stands while lines are marked: start are the marks at first
pub record IsSpread (lines : List Waits) (line : ℕ) (start marks : List Bool) (stack : List ℕ) : Type 0 where
  pub long : length marks ≡ length lines
  pub kept : (place : ℕ) → IsMarked start place → IsMarked marks place
  pub new : (place : ℕ) → IsMarked marks place → IsMarked start place ⊎ LeadsTo (WaitsFor lines) line place
  pub led : (place : ℕ) → Contains stack place → (place ≡ line) ⊎ LeadsTo (WaitsFor lines) line place
  pub known : (place : ℕ) → Contains stack place → place < length lines
  pub ahead : (place : ℕ) → IsMarked marks place ⊎ (place ≡ line) → Contains stack place ⊎ ((other : ℕ) → WaitsFor lines place other → IsMarked marks other)

none_in : (x : ℕ) → Contains [] x → ⊥
none_in x c = omega (arith, c.1)

pub spread_first : (lines : List Waits) (line : ℕ) (marks : List Bool) (stack : List ℕ) → length marks ≡ length lines → line < length lines → IsClosed lines marks → stack ≡ line ∷ [] → IsSpread lines line marks marks stack
spread_first lines line marks stack long known closed is = record {
  long = long;
  kept = λ (x : ℕ) (m : IsMarked marks x). m;
  new = λ (x : ℕ) (m : IsMarked marks x). inl m;
  led = λ (x : ℕ) (c : Contains stack x). elim (Contains-push_cases [] line x (subst (λ (l : List ℕ). Contains l x) is c)) [ inl none ↦ absurd (none_in x none) | inr same ↦ inl (sym same) ];
  known = λ (x : ℕ) (c : Contains stack x). elim (Contains-push_cases [] line x (subst (λ (l : List ℕ). Contains l x) is c)) [ inl none ↦ absurd (none_in x none) | inr same ↦ subst (λ (k : ℕ). k < length lines) same known ];
  ahead = λ (x : ℕ) (h : IsMarked marks x ⊎ (x ≡ line)). elim h [
    | inl m ↦ inr (λ (other : ℕ) (w : WaitsFor lines x other). closed x other m w)
    | inr same ↦ inl (subst (λ (l : List ℕ). Contains l x) (sym is) (subst (λ (k : ℕ). Contains (k ∷ []) x) same (Contains-push [] x)))
  ];
}

-- the line on top leads on to what it waits for
leads_on : (lines : List Waits) (line top other : ℕ) → (top ≡ line) ⊎ LeadsTo (WaitsFor lines) line top → WaitsFor lines top other → LeadsTo (WaitsFor lines) line other
leads_on lines line top other h w = elim h [
  | inl same ↦ ([], subst (λ (k : ℕ). WaitsFor lines k other) same w)
  | inr led ↦ join (WaitsFor lines) line top other led ([], w)
]

pub spread_on : (lines : List Waits) (line : ℕ) (start marks once twice : List Bool) (stack front first second : List ℕ) (top : ℕ) (found : Waits) → AreChained lines → IsSpread lines line start marks stack
    → stack ≡ front ++ top ∷ [] → slice_get lines top ≡ Some found → MarksOne found.before marks once front first → MarksOne found.after once twice first second → IsSpread lines line start twice second
spread_on lines line start marks once twice stack front first second top found chained i is at one two =
    let held : (x : ℕ) → Contains front x → Contains stack x = λ (x : ℕ) (c : Contains front x). subst (λ (l : List ℕ). Contains l x) (sym is) (Contains-append_left front (top ∷ []) x c) in
    let on_top : Contains stack top = subst (λ (l : List ℕ). Contains l top) (sym is) (Contains-push front top) in
    let go : (x : ℕ) → (found.before ≡ Some x) ⊎ (found.after ≡ Some x) → LeadsTo (WaitsFor lines) line x = λ (x : ℕ) (h : (found.before ≡ Some x) ⊎ (found.after ≡ Some x)). leads_on lines line top x (i.led top on_top) (waits lines top x found at h) in
    let within : (x : ℕ) → (found.before ≡ Some x) ⊎ (found.after ≡ Some x) → x < length lines = λ (x : ℕ) (h : (found.before ≡ Some x) ⊎ (found.after ≡ Some x)). chained.known top x (waits lines top x found at h) in
    let done : (other : ℕ) → WaitsFor lines top other → IsMarked twice other = λ (other : ℕ) (w : WaitsFor lines top other). elim (waits_by lines top other found at w) [ inl b ↦ two.kept other (one.there other b) | inr a ↦ two.there other a ] in
    let old : (x : ℕ) → IsMarked marks x ⊎ (x ≡ line) → Contains second x ⊎ ((other : ℕ) → WaitsFor lines x other → IsMarked twice other) = λ (x : ℕ) (h : IsMarked marks x ⊎ (x ≡ line)). elim (i.ahead x h) [
      | inl c ↦ elim (Contains-push_cases front top x (subst (λ (l : List ℕ). Contains l x) is c)) [
        | inl f ↦ inl (two.on x (one.on x f))
        | inr same ↦ inr (λ (other : ℕ) (w : WaitsFor lines x other). done other (subst (λ (k : ℕ). WaitsFor lines k other) (sym same) w))
      ]
      | inr all ↦ inr (λ (other : ℕ) (w : WaitsFor lines x other). two.kept other (one.kept other (all other w)))
    ] in
    record {
      long = two.long ∙ one.long ∙ i.long;
      kept = λ (x : ℕ) (m : IsMarked start x). two.kept x (one.kept x (i.kept x m));
      new = λ (x : ℕ) (m : IsMarked twice x). elim (two.new x m) [
        | inr a ↦ inr (go x (inr a.0))
        | inl m1 ↦ elim (one.new x m1) [ inr b ↦ inr (go x (inl b.0)) | inl m0 ↦ i.new x m0 ]
      ];
      led = λ (x : ℕ) (c : Contains second x). elim (two.only x c) [
        | inr a ↦ inr (go x (inr a))
        | inl c1 ↦ elim (one.only x c1) [ inr b ↦ inr (go x (inl b)) | inl c0 ↦ i.led x (held x c0) ]
      ];
      known = λ (x : ℕ) (c : Contains second x). elim (two.only x c) [
        | inr a ↦ within x (inr a)
        | inl c1 ↦ elim (one.only x c1) [ inr b ↦ within x (inl b) | inl c0 ↦ i.known x (held x c0) ]
      ];
      ahead = λ (x : ℕ) (h : IsMarked twice x ⊎ (x ≡ line)). elim h [
        | inr same ↦ old x (inr same)
        | inl m ↦ elim (two.new x m) [
          | inr a ↦ inl a.1
          | inl m1 ↦ elim (one.new x m1) [ inr b ↦ inl (two.on x b.1) | inl m0 ↦ old x (inl m0) ]
        ]
      ];
    }

pub spread_all : (lines : List Waits) (line : ℕ) (start marks : List Bool) (stack : List ℕ) → length start ≡ length lines → IsSpread lines line start marks stack → stack ≡ [] → MarksAll lines line start marks
spread_all lines line start marks stack long i is =
    let none : (x : ℕ) → Contains stack x → ⊥ = λ (x : ℕ) (c : Contains stack x). none_in x (subst (λ (l : List ℕ). Contains l x) is c) in
    record {
      long = i.long ∙ sym long;
      kept = i.kept;
      new = i.new;
      first = λ (x : ℕ) (w : WaitsFor lines line x). elim (i.ahead line (inr refl)) [ inl c ↦ absurd (none line c) | inr all ↦ all x w ];
      closed = λ (x other : ℕ) (m : IsMarked marks x) (w : WaitsFor lines x other). elim (i.ahead x (inl m)) [ inl c ↦ absurd (none x c) | inr all ↦ all other w ];
    }

-- the line on top of the stack is a line
pub top_within : (lines : List Waits) (line : ℕ) (start marks : List Bool) (stack front : List ℕ) (top : ℕ) → IsSpread lines line start marks stack → stack ≡ front ++ top ∷ [] → top < length lines
top_within lines line start marks stack front top i is = i.known top (subst (λ (l : List ℕ). Contains l top) (sym is) (Contains-push front top))
