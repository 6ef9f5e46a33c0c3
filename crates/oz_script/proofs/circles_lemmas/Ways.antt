-- Ways from one line to another.
use Rattle.std.proofs.Common.{◌≡◌, ℕ, suc, zero, ◌<◌, ◌≤◌, List, [], ◌∷◌, ◌++◌, Option, Some, None, refl, sym, subst, arith, inl, inr}
use Rattle.std.specs.Prelude.{◌⊎◌}
use Rattle.std.specs.List.{slice_get}
use Rattle.std.specs.Option.{IsSomeAnd}
use Rattle.oz_script.specs.declared.circles.waits.Waits.{Waits}
use Rattle.oz_script.specs.circles.Circles.{Leads, LeadsTo}
use Rattle.oz_script.specs.circles.Waiting.{IsOf, IsBefore, WaitsFor, AreChained}

pub at_some : {A : Type 0} (P : A → Type 0) (found : Option A) (x : A) → found ≡ Some x → P x → IsSomeAnd found P
at_some P found x e h = subst (λ (o : Option _). IsSomeAnd o P) (sym e) h

pub from_some : {A : Type 0} (P : A → Type 0) (found : Option A) (x : A) → found ≡ Some x → IsSomeAnd found P → P x
from_some P found x e h = subst (λ (o : Option _). IsSomeAnd o P) e h

pub the_some : {A : Type 0} (P : A → Type 0) (found : Option A) → IsSomeAnd found P → (x : A) × (found ≡ Some x) × P x
the_some P None h = absurd h
the_some P (Some x) h = (x, refl, h)

pub waits : (lines : List Waits) (line other : ℕ) (found : Waits) → slice_get lines line ≡ Some found → (found.before ≡ Some other) ⊎ (found.after ≡ Some other) → WaitsFor lines line other
waits lines line other found e h = at_some (λ (w : Waits). (w.before ≡ Some other) ⊎ (w.after ≡ Some other)) (slice_get lines line) found e h

pub waits_by : (lines : List Waits) (line other : ℕ) (found : Waits) → slice_get lines line ≡ Some found → WaitsFor lines line other → (found.before ≡ Some other) ⊎ (found.after ≡ Some other)
waits_by lines line other found e h = from_some (λ (w : Waits). (w.before ≡ Some other) ⊎ (w.after ≡ Some other)) (slice_get lines line) found e h

pub waits_before : (lines : List Waits) (line before : ℕ) → IsBefore lines line before → WaitsFor lines line before
waits_before lines line before h =
    let w = the_some (λ (w : Waits). w.before ≡ Some before) (slice_get lines line) h in
    waits lines line before w.0 w.1 (inl w.2)

pub joined : (R : ℕ → ℕ → Type 0) (a : ℕ) (p : List ℕ) (b : ℕ) (q : List ℕ) (c : ℕ) → Leads R a p b → Leads R b q c → Leads R a (p ++ b ∷ q) c
joined R a [] b q c h k = (h, k)
joined R a (x ∷ p) b q c h k = (h.0, joined R x p b q c h.1 k)

pub join : (R : ℕ → ℕ → Type 0) (a b c : ℕ) → LeadsTo R a b → LeadsTo R b c → LeadsTo R a c
join R a b c h k = (h.0 ++ b ∷ k.0, joined R a h.0 b k.0 c h.1 k.1)

-- what holds of all that a line waits for, and goes on so, holds of all to which it leads
pub spreads : (R : ℕ → ℕ → Type 0) (M : ℕ → Type 0) → ((a b : ℕ) → M a → R a b → M b) → (a : ℕ) (p : List ℕ) (b : ℕ) → ((x : ℕ) → R a x → M x) → Leads R a p b → M b
spreads R M closed a [] b first h = first b h
spreads R M closed a (x ∷ p) b first h = spreads R M closed x p b (λ y r. closed x y (first x h.0) r) h.1

pub same_or_less : (a b : ℕ) → a ≤ b → (a ≡ b) ⊎ (a < b)
same_or_less zero zero le = inl refl
same_or_less zero (suc b) le = inr (omega arith)
same_or_less (suc a) zero le = absurd (omega arith)
same_or_less (suc a) (suc b) le = elim (same_or_less a b (omega arith)) [ inl e ↦ inl (cc) | inr lt ↦ inr (omega arith) ]

-- a later line of a client leads to an earlier one
pub back : (lines : List Waits) (chained : AreChained lines) (fuel line other client : ℕ) → line < fuel → IsOf lines line client → IsOf lines other client → other < line → LeadsTo (WaitsFor lines) line other
back lines chained zero line other client few is_of other_of lt = absurd (omega arith)
back lines chained (suc fuel) line other client few is_of other_of lt =
    let near = chained.nearest line other client is_of other_of lt in
    let own = chained.earlier line near.0 near.1 in
    let step = waits_before lines line near.0 near.1 in
    elim (same_or_less other near.0 near.2) [
      | inl e ↦ ([], subst (λ (x : ℕ). WaitsFor lines line x) (sym e) step)
      | inr less ↦
          let on = back lines chained fuel near.0 other client (omega (arith, own.0)) (own.1 client is_of) other_of less in
          (near.0 ∷ on.0, (step, on.1))
    ]
