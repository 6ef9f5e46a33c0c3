-- To whom clients are dealt, and numbers of clients that stay.
use Rattle.std.proofs.Common.{◌≡◌, ◌≢◌, ◌⊎◌, ⊎_elim, inl, inr, ℕ, zero, suc, ◌+◌, ◌-◌, ◌%◌, ◌<◌, ◌≤◌, ◌==◌, Bool, true, false, List, [], ◌∷◌, ◌++◌, if◌then◌else◌, map, append-nil, refl, sym, ◌∙◌, ap, subst, arith, eq-eqb}
use Rattle.std.specs.Prelude.{Contains, slice_index_or, slice_set}
use Rattle.std.proofs.lemmas.Bool.{eqb-false, eqb-true, ne_eqb}
use Rattle.std.proofs.lemmas.List.Elements.{Contains-append_cases, Contains-append_left, Contains-append_right}
use Rattle.oz_worker.specs.declared.client.Client.{Client}
use Rattle.oz_worker.specs.Workers.{clients_of}

-- a client that is dealt, if it is
abbrev only_if : Bool → ℕ → List ℕ
only_if b client = if b then client ∷ [] else []

it_is : (b : Bool) (client : ℕ) → b ≡ true → Contains (only_if b client) client
it_is true client so = (0, omega arith, refl)
it_is false client so = absurd cc

none_there : (client : ℕ) → Contains [] client → ⊥
none_there client there = absurd (omega (arith, there.1))

is_it : (b : Bool) (client other : ℕ) → Contains (only_if b client) other → (b ≡ true) × (other ≡ client)
is_it true client other (zero, less, is) = (refl, sym is)
is_it true client other (suc n, less, is) = absurd (omega (arith, less))
is_it false client other there = absurd (none_there other there)

pub dealt : (workers client count : ℕ) → 1 ≤ client → client ≤ count → Contains (clients_of workers ((client - 1) % workers) count) client
dealt workers client zero first known = absurd (omega (arith, first, known))
dealt workers client (suc count) first known = by (client == suc count) refl (λ below. dealt workers client count first below)
  where
    place : ℕ
    place = (client - 1) % workers

    by : (b : Bool) → (client == suc count) ≡ b → (client ≤ count → Contains (clients_of workers place count) client)
        → Contains (clients_of workers place (suc count)) client
    by true is rest =
        let so : client ≡ suc count = eqb-true client (suc count) is in
        let before : client - 1 ≡ count = omega (arith, so) in
        let same : (count % workers == place) ≡ true = eq-eqb (count % workers) place (ap (λ (n : ℕ). n % workers) (sym before)) in
        Contains-append_right (clients_of workers place count) (only_if (count % workers == place) (suc count)) client
        (subst (λ (n : ℕ). Contains (only_if (count % workers == place) (suc count)) n) (sym so) (it_is (count % workers == place) (suc count) same))
    by false is rest =
        Contains-append_left (clients_of workers place count) (only_if (count % workers == place) (suc count)) client
        (rest (let other = eqb-false client (suc count) is in omega (arith, known, other)))

pub alone : (workers place client count : ℕ) → Contains (clients_of workers place count) client → place ≡ (client - 1) % workers
alone workers place client zero there = absurd (none_there client there)
alone workers place client (suc count) there =
    ⊎_elim (λ early. alone workers place client count early)
    (λ last.
    let is = is_it (count % workers == place) (suc count) client last in
    let before : count ≡ client - 1 = omega (arith, is.1) in
    sym (eqb-true (count % workers) place is.0) ∙ ap (λ (n : ℕ). n % workers) before)
    (Contains-append_cases (clients_of workers place count) (only_if (count % workers == place) (suc count)) client there)

-- ---- one client after another

pub one_dealt : (workers place count client : ℕ) (numbers : List ℕ) → numbers ≡ clients_of workers place count → count % workers ≡ place
    → client ≡ count + 1 → numbers ++ client ∷ [] ≡ clients_of workers place (count + 1)
one_dealt workers place count client numbers is same next =
    let so : (count % workers == place) ≡ true = eq-eqb (count % workers) place same in
    let after : suc count ≡ count + 1 = omega arith in
    let number : client ≡ suc count = omega (arith, next) in
    subst (λ (n : ℕ). numbers ++ client ∷ [] ≡ clients_of workers place n) after
    (ap (λ (l : List ℕ). l ++ client ∷ []) is
    ∙ ap (λ (l : List ℕ). clients_of workers place count ++ l) (ap (λ (n : ℕ). n ∷ []) number ∙ sym (ap (λ (b : Bool). only_if b (suc count)) so)))

pub none_dealt : (workers place count : ℕ) (numbers : List ℕ) → numbers ≡ clients_of workers place count → count % workers ≢ place
    → numbers ≡ clients_of workers place (count + 1)
none_dealt workers place count numbers is other =
    let so : (count % workers == place) ≡ false = ne_eqb (count % workers) place other in
    let after : suc count ≡ count + 1 = omega arith in
    subst (λ (n : ℕ). numbers ≡ clients_of workers place n) after
    (is ∙ (sym (append-nil (clients_of workers place count))
    ∙ ap (λ (l : List ℕ). clients_of workers place count ++ l) (sym (ap (λ (b : Bool). only_if b (suc count)) so))))

-- ---- a client that goes on keeps its number

pub same_numbers : (clients : List Client) (i : ℕ) (d new : Client) → new.number ≡ (slice_index_or clients i d).number
    → map (λ (client : Client). client.number) (slice_set clients i new) ≡ map (λ (client : Client). client.number) clients
same_numbers [] i d new same = refl
same_numbers (first ∷ clients) zero d new same = ap (λ (n : ℕ). n ∷ map (λ (client : Client). client.number) clients) same
same_numbers (first ∷ clients) (suc i) d new same = ap (λ (l : List ℕ). first.number ∷ l) (same_numbers clients i d new same)

-- and one more is behind the others
pub numbers_pushed : (clients : List Client) (one : Client)
    → map (λ (client : Client). client.number) (clients ++ one ∷ []) ≡ map (λ (client : Client). client.number) clients ++ one.number ∷ []
numbers_pushed [] one = refl
numbers_pushed (first ∷ clients) one = ap (λ (l : List ℕ). first.number ∷ l) (numbers_pushed clients one)
