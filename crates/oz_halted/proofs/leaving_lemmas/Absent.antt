-- A datanode that isn't there does nothing.
use Rattle.std.proofs.Common.{◌≡◌, ℕ, zero, suc, ◌+◌, ◌<◌, ◌≤◌, Bool, true, false, List, [], ◌∷◌, length, fold, Option, None, Some, Contains, refl, ◌∙◌, ap, subst, take, arith}
use mathlib.Core.Bool.{false≢true}
use Rattle.std.proofs.lemmas.Bool.{eqb-true}
use Rattle.std.specs.List.{slice_get}
use Rattle.oz_core.specs.declared.event.Event.{Event}
use Rattle.oz_core.specs.declared.event.EventKind.{EventKind}
use Rattle.oz_core.specs.declared.event.EventKind.TheVariants.{Put, Copy, Delete, CloseCommand, Wipe}
use Rattle.oz_core.specs.declared.opening.NodeOpening.{NodeOpening}
use Rattle.oz_core.specs.declared.opening.Opening.{Opening}
use Rattle.oz_core.specs.Law.{IsLegal, KindIsEnabled}
use Rattle.oz_core.specs.Stories.{last_told, newer}
use Rattle.oz_kept.specs.laws.Deleted.{found_at, enabled_at}
use Rattle.oz_halted.specs.halting.laws.Unchanged.{changes}

-- the datanodes from a number on, so many
module _ (make : ℕ → NodeOpening) where
  abbrev pub nodes_from : ℕ → ℕ → List NodeOpening
  nodes_from first zero = []
  nodes_from first (suc count) = make first ∷ nodes_from (suc first) count

  pub nodes_length : (first count : ℕ) → length (nodes_from first count) ≡ count
  nodes_length first zero = refl
  nodes_length first (suc count) = ap suc (nodes_length (suc first) count)

  pub node_there : (first count dn : ℕ) → dn < count → slice_get (nodes_from first count) dn ≡ Some (make (first + dn))
  node_there first zero dn lt = absurd (omega (arith, lt))
  node_there first (suc count) zero lt = let same : first ≡ first + 0 = omega arith in ap (λ (n : ℕ). Some (make n)) same
  node_there first (suc count) (suc dn) lt =
      let same : suc first + dn ≡ first + suc dn = omega arith in
      node_there (suc first) count dn (omega (arith, lt)) ∙ ap (λ (n : ℕ). Some (make n)) same

pub beyond : {A : Type 0} (l : List A) (k : ℕ) → length l ≤ k → slice_get l k ≡ None
beyond [] k le = refl
beyond (x ∷ l) zero le = absurd (omega (arith, le))
beyond (x ∷ l) (suc k) le = beyond l k (omega (arith, le))

-- ---- what is told of events, one after another

-- what holds of the first and stays, holds of the last
pub stays_false : (tells : EventKind → Option Bool) (story : List Event) (first : Bool) → first ≡ false → ((event : Event) → Contains story event → (before : Bool) → before ≡ false → newer (tells event.kind) before ≡ false)
    → last_told tells first story ≡ false
stays_false tells [] first is each = is
stays_false tells (event ∷ story) first is each =
    stays_false tells story (newer (tells event.kind) first) (each event (0, omega arith, refl) first is)
    (λ other there. each other (suc there.0, omega (arith, there.1), there.2))

pub stays_zero : (step : ℕ → Event → ℕ) (story : List Event) (first : ℕ) → first ≡ 0 → ((event : Event) → Contains story event → step 0 event ≡ 0) → fold step first story ≡ 0
stays_zero step [] first is each = is
stays_zero step (event ∷ story) first is each =
    stays_zero step story (step first event) (ap (λ (n : ℕ). step n event) is ∙ each event (0, omega arith, refl))
    (λ other there. each other (suc there.0, omega (arith, there.1), there.2))

-- ---- its number in an event

kind_there : (opening : Opening) (before : List Event) (seat dn : ℕ) (kind : EventKind) → KindIsEnabled opening before seat kind → changes dn kind ≡ true → dn < length opening.nodes
kind_there opening before seat dn (Put other put id first count) enabled is = subst (λ (n : ℕ). n < length opening.nodes) (eqb-true other dn is) enabled.of_datanode.there
kind_there opening before seat dn (Copy source target copied) enabled is = subst (λ (n : ℕ). n < length opening.nodes) (eqb-true target dn is) enabled.of_target.there
kind_there opening before seat dn (Delete other number locals) enabled is = subst (λ (n : ℕ). n < length opening.nodes) (eqb-true other dn is) enabled.of_datanode.there
kind_there opening before seat dn (CloseCommand other container) enabled is = subst (λ (n : ℕ). n < length opening.nodes) (eqb-true other dn is) enabled.of_datanode.there
kind_there opening before seat dn (Wipe other) enabled is = subst (λ (n : ℕ). n < length opening.nodes) (eqb-true other dn is) enabled.of_datanode.there
kind_there opening before seat dn kind enabled is = absurd (false≢true is)

pub none_changes : (opening : Opening) (story : List Event) → IsLegal opening story → (dn : ℕ) → length opening.nodes ≤ dn → (event : Event) → Contains story event → changes dn event.kind ≡ false
none_changes opening story legal dn le event there = by (changes dn event.kind) refl
  where
    by : (t : Bool) → changes dn event.kind ≡ t → t ≡ false
    by true e =
        let enabled = enabled_at opening story legal there.0 event (found_at story event there) in
        absurd (omega (arith, le, kind_there opening (take there.0 story) event.seat dn event.kind enabled e))
    by false e = refl
