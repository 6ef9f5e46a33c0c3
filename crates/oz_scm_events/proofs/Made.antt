-- Containers in the order of their numbers beside those of a map, and a grant more.
use Rattle.std.specs.Prelude.{◌-◌, ◌==◌, ◌||◌, Bool, true, false, IsSome, fold, max, take, drop, slice_get}
use Rattle.std.specs.List.{list_any}
use Rattle.std.proofs.Common.{◌≡◌, ℕ, zero, suc, ◌+◌, ◌<◌, ◌≤◌, List, [], ◌∷◌, ◌++◌, length, Option, None, Some, refl, sym, ap, ◌∙◌, cond, subst, arith}
use Rattle.std.proofs.lemmas.Bool.{eqb-true, eqb-false, eq-eqb}
use Rattle.std.specs.Cmp.{nat_cmp_total, unsigned_ties}
use Rattle.std.specs.FinMap.{get, insert, keys, get-insert, contains_key-keys}
use Rattle.std.specs.Option.{option_map}
use Rattle.std.specs.Ordering.{eq_by_cmp, nat_cmp}
use Rattle.oz_core.specs.declared.opening.Container.{Container}
use Rattle.oz_container.specs.declared.state.Event.{Event as Step}
use Rattle.oz_container.specs.declared.state.State.{State}
use Rattle.oz_container.specs.Steps.{next}
use Rattle.oz_core.specs.Scm.{Containers, come_to, granted_in}
use Rattle.oz_scm.specs.declared.grants.container.Container.{Container as MadeContainer}
use Rattle.oz_scm.specs.grants.Made.{container_at, granted_in as made_in, state_at, stepped, with_container, with_stepped}
use Rattle.oz_scm_events.specs.Kept.{as_told, AreContainers}

-- ---- a list in which one place changes, or comes behind it

abbrev changed : ℕ → MadeContainer → List MadeContainer → List MadeContainer
changed place new made = take place made ++ new ∷ drop (suc place) made

at_place : (made : List MadeContainer) (place : ℕ) (new : MadeContainer) → place ≤ length made → slice_get (changed place new made) place ≡ Some new
at_place [] zero new within = refl
at_place [] (suc place) new within = absurd (omega (arith, within))
at_place (first ∷ made) zero new within = refl
at_place (first ∷ made) (suc place) new within = at_place made place new (omega (arith, within))

at_others : (made : List MadeContainer) (place : ℕ) (new : MadeContainer) (k : ℕ) → place ≤ length made → (k ≡ place → ⊥) → slice_get (changed place new made) k ≡ slice_get made k
at_others [] zero new zero within apart = absurd (apart refl)
at_others [] zero new (suc k) within apart = refl
at_others [] (suc place) new k within apart = absurd (omega (arith, within))
at_others (first ∷ made) zero new zero within apart = absurd (apart refl)
at_others (first ∷ made) zero new (suc k) within apart = refl
at_others (first ∷ made) (suc place) new zero within apart = refl
at_others (first ∷ made) (suc place) new (suc k) within apart = at_others made place new k (omega (arith, within)) (λ e. apart (ap suc e))

pred : (place : ℕ) → suc place - 1 ≡ place
pred place = omega arith

is_changed : (place : ℕ) (new : MadeContainer) (made : List MadeContainer) → with_container (suc place) new made ≡ changed place new made
is_changed place new made = ap (λ n. take n made ++ new ∷ drop (suc place) made) (pred place)

with_it : (made : List MadeContainer) (number : ℕ) (new : MadeContainer) → 1 ≤ number → number ≤ length made + 1 → container_at (with_container number new made) number ≡ Some new
with_it made zero new some within = absurd (omega (arith, some))
with_it made (suc place) new some within =
    ap (λ l. slice_get l place) (is_changed place new made) ∙ at_place made place new (omega (arith, within))

with_others : (made : List MadeContainer) (number : ℕ) (new : MadeContainer) (other : ℕ) → 1 ≤ number → number ≤ length made + 1 → (other ≡ number → ⊥) → container_at (with_container number new made) other ≡ container_at made other
with_others made number new zero some within apart = refl
with_others made zero new (suc k) some within apart = absurd (omega (arith, some))
with_others made (suc place) new (suc k) some within apart =
    ap (λ l. slice_get l k) (is_changed place new made) ∙ at_others made place new k (omega (arith, within)) (λ e. apart (ap suc e))

-- ---- both, with a grant more

grows : (o : Option MadeContainer) (pipeline count : ℕ) → granted_in (option_map as_told o) pipeline count ≡ as_told (made_in o pipeline count)
grows None pipeline count = refl
grows (Some container) pipeline count = refl

module _ (made : List MadeContainer) (all : Containers) (are : AreContainers made all) where
  inserted : (number : ℕ) (new : MadeContainer) (told : Container) → told ≡ as_told new → 1 ≤ number → number ≤ length made + 1
      → AreContainers (with_container number new made) (insert all number told)
  inserted number new told told_is some within other = by (other == number) refl
    where
      got : get (insert all number told) other ≡ cond (eq_by_cmp nat_cmp other number) (Some told) (get all other)
      got = get-insert nat_cmp_total all number told other

      by : (t : Bool) → (other == number) ≡ t → get (insert all number told) other ≡ option_map as_told (container_at (with_container number new made) other)
      by true is =
          let same = eqb-true other number is in
          got ∙ ap (λ t. cond t (Some told) (get all other)) (sym (unsigned_ties other number) ∙ is)
          ∙ ap (λ c. Some c) told_is
          ∙ sym (ap (option_map as_told) (ap (container_at (with_container number new made)) same ∙ with_it made number new some within))
      by false not =
          got ∙ ap (λ t. cond t (Some told) (get all other)) (sym (unsigned_ties other number) ∙ not)
          ∙ are other
          ∙ sym (ap (option_map as_told) (with_others made number new other some within (eqb-false other number not)))

  pub granted_more : (number pipeline count : ℕ) → 1 ≤ number → number ≤ length made + 1
      → AreContainers (with_container number (made_in (container_at made number) pipeline count) made) (insert all number (granted_in (get all number) pipeline count))
  granted_more number pipeline count some within =
      inserted number (made_in (container_at made number) pipeline count) (granted_in (get all number) pipeline count)
      (ap (λ o. granted_in o pipeline count) (are number) ∙ grows (container_at made number) pipeline count) some within

-- ---- the greatest number

or_true : (t : Bool) → (t || true) ≡ true
or_true true = refl
or_true false = refl

no_less : (a : ℕ) (xs : List ℕ) → a ≤ fold max a xs
no_less a [] = omega arith
no_less a (x ∷ xs) = let rest = no_less (max a x) xs in omega (arith, rest)

most : (n a : ℕ) (xs : List ℕ) → a ≤ n → ((q : ℕ) → list_any (eq_by_cmp nat_cmp q) xs ≡ true → q ≤ n) → fold max a xs ≤ n
most n a [] le all = le
most n a (x ∷ xs) le all =
    let itself : eq_by_cmp nat_cmp x x ≡ true = sym (unsigned_ties x x) ∙ eq-eqb x x refl in
    let its = all x (ap (λ (t : Bool). t || list_any (eq_by_cmp nat_cmp x) xs) itself) in
    most n (max a x) xs (omega (arith, le, its))
    (λ q later. all q (ap (λ (t : Bool). eq_by_cmp nat_cmp q x || t) later ∙ or_true (eq_by_cmp nat_cmp q x)))

least : (a q : ℕ) (xs : List ℕ) → list_any (eq_by_cmp nat_cmp q) xs ≡ true → q ≤ fold max a xs
least a q [] any = absurd (subst (λ (t : Bool). cond t ⊥ (Unit {0})) any tt)
least a q (x ∷ xs) any = by (eq_by_cmp nat_cmp q x) refl (λ later. least (max a x) q xs later)
  where
    by : (t : Bool) → eq_by_cmp nat_cmp q x ≡ t → (list_any (eq_by_cmp nat_cmp q) xs ≡ true → q ≤ fold max a (x ∷ xs)) → q ≤ fold max a (x ∷ xs)
    by true is rest =
        let same = eqb-true q x (unsigned_ties q x ∙ is) in
        let le = no_less (max a x) xs in
        omega (arith, same, le)
    by false not rest = rest (sym (ap (λ (t : Bool). t || list_any (eq_by_cmp nat_cmp q) xs) not) ∙ any)

pub within : (made : List MadeContainer) (number : ℕ) → IsSome (option_map as_told (container_at made number)) → number ≤ length made
within made zero there = omega arith
within made (suc place) there = let lt = below made place there in omega (arith, lt)
  where
    below : (made : List MadeContainer) (place : ℕ) → IsSome (option_map as_told (slice_get made place)) → place < length made
    below [] place there = absurd (subst (λ (t : Bool). cond t ⊥ (Unit {0})) there tt)
    below (first ∷ made) zero there = omega arith
    below (first ∷ made) (suc place) there = let lt = below made place there in omega (arith, lt)

none_some : (made : List MadeContainer) (container : MadeContainer) → container_at made 0 ≡ Some container → ⊥
none_some made container there = cc

pub chosen_there : (made : List MadeContainer) (number : ℕ) (container : MadeContainer) → container_at made number ≡ Some container → (1 ≤ number) × (number ≤ length made + 1)
chosen_there made zero container there = absurd (none_some made container there)
chosen_there made (suc place) container there =
    let le = within made (suc place) (subst (λ o. IsSome (option_map as_told o)) (sym there) refl) in
    (omega arith, omega (arith, le))

-- ---- a step

module _ (made : List MadeContainer) (all : Containers) (are : AreContainers made all) where
  pub stepped_more : (number : ℕ) (event : Step) (from state : State) → state_at made number ≡ Some from → next from event ≡ Some state
      → AreContainers (with_stepped number (stepped (container_at made number) event) made) (come_to all number state (get all number))
  stepped_more number event from state in_state leads = by (container_at made number) refl (are number)
    where
      some_same : (a b : State) → Some a ≡ Some b → a ≡ b
      some_same a b is = ap (λ o. or_it a o) is
        where
          or_it : State → Option State → State
          or_it other None = other
          or_it other (Some x) = x

      by : (o : Option MadeContainer) → container_at made number ≡ o → get all number ≡ option_map as_told o
          → AreContainers (with_stepped number (stepped (container_at made number) event) made) (come_to all number state (get all number))
      by None there told = absurd (cc (sym (ap (option_map (λ (c : MadeContainer). c.state)) there) ∙ in_state))
      by (Some container) there told =
          let place = chosen_there made number container there in
          let new : MadeContainer = record container { state = state } in
          let same : container.state ≡ from = some_same container.state from (sym (ap (option_map (λ (c : MadeContainer). c.state)) there) ∙ in_state) in
          let to : stepped (container_at made number) event ≡ Some new =
          ap (λ o. stepped o event) there ∙ ap (option_map (λ (s : State). record container { state = s })) (ap (λ s. next s event) same ∙ leads) in
          subst (λ (o : Option MadeContainer). AreContainers (with_stepped number o made) (come_to all number state (get all number))) (sym to)
          (subst (λ (o : Option Container). AreContainers (with_container number new made) (come_to all number state o)) (sym told)
          (inserted made all are number new (as_told new) refl place.0 place.1))

last_there : (first : MadeContainer) (made : List MadeContainer) → IsSome (option_map as_told (slice_get (first ∷ made) (length made)))
last_there first [] = refl
last_there first (second ∷ made) = last_there second made

module _ (made : List MadeContainer) (all : Containers) (are : AreContainers made all) where
  key_within : (q : ℕ) → list_any (eq_by_cmp nat_cmp q) (keys all) ≡ true → q ≤ length made
  key_within q key = within made q (subst IsSome (are q) (contains_key-keys all q ∙ key))

  pub greatest_is : fold max 0 (keys all) ≡ length made
  greatest_is =
      let le = most (length made) 0 (keys all) (omega arith) key_within in
      let ge = reaches made are in
      omega (arith, le, ge)
    where
      reaches : (made : List MadeContainer) → AreContainers made all → length made ≤ fold max 0 (keys all)
      reaches [] are = omega arith
      reaches (first ∷ rest) are =
          least 0 (suc (length rest)) (keys all)
          (sym (contains_key-keys all (suc (length rest))) ∙ subst IsSome (sym (are (suc (length rest)))) (last_there first rest))

  pub none_behind : (number : ℕ) → length made < number → IsSome (get all number) → ⊥
  none_behind number behind there = let le = within made number (subst IsSome (are number) there) in omega (arith, behind, le)
