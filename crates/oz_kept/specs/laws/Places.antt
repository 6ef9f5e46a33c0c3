-- Stories in two parts: what the second is behind the first, and what its events make of the namespace.
use Rattle.std.proofs.Common.{
  ◌≡◌,
  ℕ,
  zero,
  suc,
  ◌-◌,
  ◌≤◌,
  Bool,
  true,
  List,
  [],
  ◌∷◌,
  ◌++◌,
  take,
  drop,
  refl,
  sym,
  ◌∙◌,
  ap,
  subst,
  append_assoc,
  append-nil,
  arith,
}
use Rattle.oz_namespace.specs.declared.namespace.Namespace.{Namespace}
use Rattle.oz_core.specs.declared.event.Event.{Event}
use Rattle.oz_core.specs.declared.opening.Opening.{Opening}
use Rattle.oz_core.specs.Law.{IsEnabled, IsLegalFrom}
use Rattle.oz_core.specs.Manager.{namespace_step, namespace_from, namespace_of}

-- one event more at the end of what stands before
pub moved_over : (before rest : List Event) (event : Event) → (before ++ event ∷ []) ++ rest ≡ before ++ event ∷ rest
moved_over before rest event = append_assoc before (event ∷ []) rest

pub legal_behind : (opening : Opening) (before a b : List Event) → IsLegalFrom opening before (a ++ b) → IsLegalFrom opening (before ++ a) b
unfolding IsLegalFrom
legal_behind opening before [] b legal = subst (λ (l : List Event). IsLegalFrom opening l b) (sym (append-nil before)) legal
legal_behind opening before (event ∷ a) b legal =
    subst (λ (l : List Event). IsLegalFrom opening l b) (moved_over before a event) (legal_behind opening (before ++ event ∷ []) a b legal.1)

pub legal_first : (opening : Opening) (before : List Event) (event : Event) (rest : List Event) → IsLegalFrom opening before (event ∷ rest)
    → IsEnabled opening before event
unfolding IsLegalFrom
legal_first opening before event rest legal = legal.0

pub legal_rest : (opening : Opening) (before : List Event) (event : Event) (rest : List Event) → IsLegalFrom opening before (event ∷ rest)
    → IsLegalFrom opening (before ++ event ∷ []) rest
unfolding IsLegalFrom
legal_rest opening before event rest legal = legal.1

pub namespace_parts : (counts : ℕ → Bool) (before : List Event) (namespace : Namespace) (a b : List Event)
    → namespace_from counts before namespace (a ++ b) ≡ namespace_from counts (before ++ a) (namespace_from counts before namespace a) b
unfolding namespace_from
namespace_parts counts before namespace [] b = ap (λ (l : List Event). namespace_from counts l namespace b) (sym (append-nil before))
namespace_parts counts before namespace (event ∷ a) b =
    let next = namespace_step counts before namespace event.kind in
    namespace_parts counts (before ++ event ∷ []) next a b
    ∙ ap (λ (l : List Event). namespace_from counts l (namespace_from counts (before ++ event ∷ []) next a) b) (moved_over before a event)

-- what one event more makes of it
pub namespace_next : (opening : Opening) (before : List Event) (event : Event)
    → namespace_of opening (before ++ event ∷ []) ≡ namespace_step (λ index. true) before (namespace_of opening before) event.kind
unfolding namespace_from
namespace_next opening before event = namespace_parts (λ index. true) [] opening.namespace before (event ∷ [])

module _ {A : Type 0} where
  pub later_front : (l : List A) (place later : ℕ) → place ≤ later → take later l ≡ take place l ++ take (later - place) (drop place l)
  later_front l zero later le = let same : later ≡ later - 0 = omega arith in ap (λ n. take n l) same
  later_front l (suc place) zero le = absurd (omega arith)
  later_front [] (suc place) (suc later) le = none (suc later - suc place)
    where
      none : (n : ℕ) → [] ≡ take {A = A} n []
      none zero = refl
      none (suc n) = refl
  later_front (x ∷ l) (suc place) (suc later) le =
      let same : later - place ≡ suc later - suc place = omega arith in
      ap (λ rest. x ∷ rest) (later_front l place later (omega arith) ∙ ap (λ n. take place l ++ take n (drop place l)) same)
