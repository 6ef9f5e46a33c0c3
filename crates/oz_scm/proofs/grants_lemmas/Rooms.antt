-- Containers with room, as they are listed, and what a grant makes of them.
use Rattle.std.proofs.Common.{◌≡◌, ◌⊎◌, ◌↔◌, inl, inr, ℕ, zero, suc, ◌+◌, ◌-◌, ◌<◌, ◌≤◌, min, Bool, true, false, not, nat_eq, cond, IsTrue, List, [], ◌∷◌, ◌++◌, length, take, drop, slice_get, slice_set, get_or, Option, None, Some, All, filter, refl, sym, ap, subst, ◌∙◌, arith, eqb-true}
use Rattle.std.proofs.lemmas.Bool.{false≢true, cases_lt, eq-eqb, and_parts, leb-true, ltb-true}
use Rattle.std.proofs.lemmas.List.{length-set}
use Rattle.std.proofs.lemmas.List.Elements.{All-set, All-append, All-cons, All-nil}
use Rattle.oz_container.specs.Steps.{next as next_state}
use Rattle.oz_container.specs.declared.state.Event.{Event}
use Rattle.oz_container.specs.declared.state.Event.TheVariants as events
use Rattle.oz_container.specs.declared.state.State.{State}
use Rattle.oz_container.specs.declared.state.State.TheVariants as states
use Rattle.oz_container.specs.declared.state.State.TheVariants.{Open}
use Rattle.std.specs.Option.{option_map}
use Rattle.oz_nodes.specs.Pipelines.{pipelines_of}
use Rattle.oz_scm.specs.declared.grants.container.Container.{Container}
use Rattle.oz_scm.specs.declared.grants.entry.Grant.{Grant}
use Rattle.oz_scm.specs.grants.Due.{HasRoom, MayTake}
use Rattle.oz_scm.specs.grants.Made.{Made, container_at, with_container, with_stepped, granted_in, stepped, after_grant, after_step, MayGrant, is_on}
use Rattle.oz_scm.specs.grants.Steps.{IsAmong, IsListed, IsLowestOf, IsLowered, IsSound, made_of}
use Rattle.oz_dellog.specs.Log.{Log}

-- ---- numbers in a list

among_left : (xs ys : List ℕ) (n : ℕ) → IsAmong xs n → IsAmong (xs ++ ys) n
among_left [] ys n is = absurd is
among_left (x ∷ xs) ys n (inl here) = inl here
among_left (x ∷ xs) ys n (inr there) = inr (among_left xs ys n there)

among_last : (xs : List ℕ) (n : ℕ) → IsAmong (xs ++ n ∷ []) n
among_last [] n = inl refl
among_last (x ∷ xs) n = inr (among_last xs n)

among_cases : (xs : List ℕ) (x n : ℕ) → IsAmong (xs ++ x ∷ []) n → IsAmong xs n ⊎ (x ≡ n)
among_cases [] x n (inl here) = inr here
among_cases [] x n (inr there) = absurd there
among_cases (y ∷ xs) x n (inl here) = inl (inl here)
among_cases (y ∷ xs) x n (inr there) = elim (among_cases xs x n there) [
  | inl front ↦ inl (inr front)
  | inr last ↦ inr last
]

test_of : (b : Bool) → (b ≡ true) ⊎ (b ≡ false)
test_of true = inl refl
test_of false = inr refl

not_same : (a b : ℕ) → ¬ (a ≡ b) → nat_eq a b ≡ false
not_same a b differ = elim (test_of (nat_eq a b)) [
  | inl same ↦ absurd (differ (eqb-true a b same))
  | inr other ↦ other
]

same_number : (a : ℕ) → nat_eq a a ≡ true
same_number a = eq-eqb a a refl

abbrev without : ℕ → List ℕ → List ℕ
without number numbers = filter (λ other. not (nat_eq other number)) numbers

gone_step : (number x n : ℕ) (xs : List ℕ) (b : Bool) → b ≡ nat_eq x number → IsAmong (cond (not b) (x ∷ without number xs) (without number xs)) n → ((x ≡ n) × (b ≡ false)) ⊎ IsAmong (without number xs) n
gone_step number x n xs true is there = inr there
gone_step number x n xs false is (inl here) = inl (here, refl)
gone_step number x n xs false is (inr there) = inr there

gone_to : (number n : ℕ) (xs : List ℕ) → IsAmong (without number xs) n → IsAmong xs n × ¬ (n ≡ number)
gone_to number n [] is = absurd is
gone_to number n (x ∷ xs) is = elim (gone_step number x n xs (nat_eq x number) refl is) [
  | inl here ↦ (inl here.0, λ same. false≢true (sym here.1 ∙ (ap (λ m. nat_eq m number) (here.0 ∙ same) ∙ same_number number)))
  | inr there ↦ let rest = gone_to number n xs there in (inr rest.0, rest.1)
]

keep_step : (number x n : ℕ) (xs : List ℕ) (b : Bool) → (x ≡ n → b ≡ false) → ((x ≡ n) ⊎ IsAmong (without number xs) n) → IsAmong (cond (not b) (x ∷ without number xs) (without number xs)) n
keep_step number x n xs true kept (inl here) = absurd (false≢true (sym (kept here)))
keep_step number x n xs true kept (inr there) = there
keep_step number x n xs false kept (inl here) = inl here
keep_step number x n xs false kept (inr there) = inr there

gone_from : (number n : ℕ) (xs : List ℕ) → IsAmong xs n → ¬ (n ≡ number) → IsAmong (without number xs) n
gone_from number n [] is differ = absurd is
gone_from number n (x ∷ xs) (inl here) differ = keep_step number x n xs (nat_eq x number) (λ same. ap (λ m. nat_eq m number) same ∙ not_same n number differ) (inl here)
gone_from number n (x ∷ xs) (inr there) differ = keep_step number x n xs (nat_eq x number) (λ same. ap (λ m. nat_eq m number) same ∙ not_same n number differ) (inr (gone_from number n xs there differ))

-- ---- the lowest so far

pub lowest_more : (Rule : ℕ → Type 0) (xs : List ℕ) (x : ℕ) (before after : Option ℕ) → IsLowestOf Rule xs before → IsLowered Rule before x after → IsLowestOf Rule (xs ++ x ∷ []) after
lowest_more Rule xs x None after lowest (inl (fits, is)) = subst (IsLowestOf Rule (xs ++ x ∷ [])) (sym is) (
  fits,
  λ n among rule. elim (among_cases xs x n among) [
    | inl front ↦ absurd (lowest n front rule)
    | inr last ↦ omega (arith, last)
  ],
)
lowest_more Rule xs x (Some low) after lowest (inl (fits, is)) = subst (IsLowestOf Rule (xs ++ x ∷ [])) (sym is) (
  which,
  λ n among rule. elim (among_cases xs x n among) [
    | inl front ↦ omega (arith, lowest.1 n front rule)
    | inr last ↦ omega (arith, last)
  ],
)
  where
    which : Rule (min low x)
    which = elim (cases_lt low x) [
      | inl below ↦ subst Rule (omega arith) lowest.0
      | inr above ↦ subst Rule (omega arith) fits
    ]
lowest_more Rule xs x None after lowest (inr (bad, is)) = subst (IsLowestOf Rule (xs ++ x ∷ [])) (sym is) (λ n among rule. elim (among_cases xs x n among) [
  | inl front ↦ lowest n front rule
  | inr last ↦ bad (subst Rule (sym last) rule)
])
lowest_more Rule xs x (Some low) after lowest (inr (bad, is)) = subst (IsLowestOf Rule (xs ++ x ∷ [])) (sym is) (
  lowest.0,
  λ n among rule. elim (among_cases xs x n among) [
    | inl front ↦ lowest.1 n front rule
    | inr last ↦ absurd (bad (subst Rule (sym last) rule))
  ],
)

pub take_next : (xs : List ℕ) (k x : ℕ) → k < length xs → x ≡ get_or xs k x → take (suc k) xs ≡ take k xs ++ x ∷ []
take_next [] k x lt is = absurd (omega (arith, lt))
take_next (y ∷ xs) zero x lt is = ap (λ (n : ℕ). n ∷ []) (sym is)
take_next (y ∷ xs) (suc k) x lt is = ap (λ (l : List ℕ). y ∷ l) (take_next xs k x (omega (arith, lt)) is)

-- ---- what is listed may be taken

pub found_lowest : (l : List Container) (roomy : List ℕ) (pipeline : ℕ) (excluded : List ℕ) (n : ℕ) → IsListed l roomy → IsLowestOf (MayTake l pipeline excluded) roomy (Some n)
    → MayTake l pipeline excluded n × ((lower : ℕ) → lower < n → ¬ MayTake l pipeline excluded lower)
found_lowest l roomy pipeline excluded n listed lowest = (lowest.0, λ lower below take. absurd (omega (arith, below, lowest.1 lower ((listed lower).1 take.room) take)))

pub found_none : (l : List Container) (roomy : List ℕ) (pipeline : ℕ) (excluded : List ℕ) → IsListed l roomy → IsLowestOf (MayTake l pipeline excluded) roomy None → (any : ℕ) → ¬ MayTake l pipeline excluded any
found_none l roomy pipeline excluded listed lowest any take = lowest any ((listed any).1 take.room) take

-- ---- the container at a number

at_place : (l : List Container) (number place : ℕ) → number ≡ suc place → container_at l number ≡ slice_get l place
at_place l number place is = ap (container_at l) is

set_same : (l : List Container) (i : ℕ) (c : Container) → i < length l → slice_get (slice_set l i c) i ≡ Some c
set_same [] i c lt = absurd (omega (arith, lt))
set_same (x ∷ l) zero c lt = refl
set_same (x ∷ l) (suc i) c lt = set_same l i c (omega (arith, lt))

set_other : (l : List Container) (i j : ℕ) (c : Container) → ¬ (j ≡ i) → slice_get (slice_set l i c) j ≡ slice_get l j
set_other [] i j c differ = refl
set_other (x ∷ l) zero zero c differ = absurd (differ refl)
set_other (x ∷ l) zero (suc j) c differ = refl
set_other (x ∷ l) (suc i) zero c differ = refl
set_other (x ∷ l) (suc i) (suc j) c differ = set_other l i j c (λ same. differ (ap suc same))

push_same : (l : List Container) (c : Container) → slice_get (l ++ c ∷ []) (length l) ≡ Some c
push_same [] c = refl
push_same (x ∷ l) c = push_same l c

push_other : (l : List Container) (j : ℕ) (c : Container) → ¬ (j ≡ length l) → slice_get (l ++ c ∷ []) j ≡ slice_get l j
push_other [] zero c differ = absurd (differ refl)
push_other [] (suc j) c differ = refl
push_other (x ∷ l) zero c differ = refl
push_other (x ∷ l) (suc j) c differ = push_other l j c (λ same. differ (ap suc same))

within : (l : List Container) (i : ℕ) (c : Container) → slice_get l i ≡ Some c → i < length l
within [] i c is = absurd (cc is)
within (x ∷ l) zero c is = omega arith
within (x ∷ l) (suc i) c is = let rest = within l i c is in omega (arith, rest)

absent : (l : List Container) (i : ℕ) → slice_get l i ≡ None → length l ≤ i
absent [] i is = omega arith
absent (x ∷ l) zero is = absurd (cc is)
absent (x ∷ l) (suc i) is = let rest = absent l i is in omega (arith, rest)

set_parts : (l : List Container) (i : ℕ) (c : Container) → i < length l → slice_set l i c ≡ take i l ++ c ∷ drop (suc i) l
set_parts [] i c lt = absurd (omega (arith, lt))
set_parts (x ∷ l) zero c lt = refl
set_parts (x ∷ l) (suc i) c lt = ap (λ (r : List Container). x ∷ r) (set_parts l i c (omega (arith, lt)))

push_parts : (l : List Container) (c : Container) → l ++ c ∷ [] ≡ take (length l) l ++ c ∷ drop (suc (length l)) l
push_parts [] c = refl
push_parts (x ∷ l) c = ap (λ (r : List Container). x ∷ r) (push_parts l c)

-- a number that is one above a place
abbrev IsAt : ℕ → ℕ → Type 0
IsAt number place = number ≡ suc place

with_place : (l : List Container) (number place : ℕ) (c : Container) → IsAt number place → with_container number c l ≡ take place l ++ c ∷ drop (suc place) l
with_place l number place c is =
    let before : number - 1 ≡ place = omega (arith, is) in
    ap (λ n. take n l ++ c ∷ drop number l) before ∙ ap (λ n. take place l ++ c ∷ drop n l) is

pub at_number : (l : List Container) (number : ℕ) (c : Container) → container_at l number ≡ Some c → (1 ≤ number) × (number ≤ length l)
at_number l zero c is = absurd (cc is)
at_number l (suc place) c is = let lt = within l place c is in (omega arith, omega (arith, lt))

pub next_at : (l : List Container) (number : ℕ) → container_at l number ≡ None → 1 ≤ number → number ≤ length l + 1 → number ≡ length l + 1
next_at l zero is least most = absurd (omega (arith, least))
next_at l (suc place) is least most = let past = absent l place is in omega (arith, past, most)

at_suc : (number : ℕ) → 1 ≤ number → IsAt number (number - 1)
at_suc number least = omega (arith, least)

pub set_is : (l : List Container) (number : ℕ) (c old : Container) → container_at l number ≡ Some old → slice_set l (number - 1) c ≡ with_container number c l
set_is l number c old is =
    let there = at_number l number old is in
    let at = at_suc number there.0 in
    set_parts l (number - 1) c (omega (arith, there.0, there.1)) ∙ sym (with_place l number (number - 1) c at)

pub push_is : (l : List Container) (number : ℕ) (c : Container) → container_at l number ≡ None → 1 ≤ number → number ≤ length l + 1 → l ++ c ∷ [] ≡ with_container number c l
push_is l number c is least most =
    let at : IsAt number (length l) = let n = next_at l number is least most in omega (arith, n) in
    push_parts l c ∙ sym (with_place l number (length l) c at)

-- ---- room

moved : (l other : List Container) (n : ℕ) → container_at other n ≡ container_at l n → HasRoom l n → HasRoom other n
moved l other n same room = record { container = room.container; there = same ∙ room.there; opened = room.opened; few = room.few }

-- only one container differs
abbrev pub DifferAt : ℕ → List Container → List Container → Type 0
DifferAt number l other = (n : ℕ) → ¬ (n ≡ number) → container_at other n ≡ container_at l n

pub differ_set : (l : List Container) (number : ℕ) (c : Container) → 1 ≤ number → DifferAt number l (slice_set l (number - 1) c)
differ_set l number c least zero differ = refl
differ_set l number c least (suc j) differ = set_other l (number - 1) j c (λ same. differ (omega (arith, same, least)))

pub differ_push : (l : List Container) (number : ℕ) (c : Container) → number ≡ length l + 1 → DifferAt number l (l ++ c ∷ [])
differ_push l number c is zero differ = refl
differ_push l number c is (suc j) differ = push_other l j c (λ same. differ (omega (arith, same, is)))

pub at_set : (l : List Container) (number : ℕ) (c : Container) → 1 ≤ number → number ≤ length l → container_at (slice_set l (number - 1) c) number ≡ Some c
at_set l number c least most = at_place (slice_set l (number - 1) c) number (number - 1) (at_suc number least) ∙ set_same l (number - 1) c (omega (arith, least, most))

pub at_push : (l : List Container) (number : ℕ) (c : Container) → number ≡ length l + 1 → container_at (l ++ c ∷ []) number ≡ Some c
at_push l number c is = at_place (l ++ c ∷ []) number (length l) (omega (arith, is)) ∙ push_same l c

abbrev Room : Container → Type 0
Room c = (c.state ≡ Open) × (c.granted ≤ 960)

pub same_or_not : (a b : ℕ) → (a ≡ b) ⊎ (¬ (a ≡ b))
same_or_not zero zero = inl refl
same_or_not zero (suc b) = inr (λ e. absurd (omega (arith, e)))
same_or_not (suc a) zero = inr (λ e. absurd (omega (arith, e)))
same_or_not (suc a) (suc b) = elim (same_or_not a b) [
  | inl same ↦ inl (ap suc same)
  | inr differ ↦ inr (λ e. differ (omega (arith, e)))
]

room_of : (l : List Container) (n : ℕ) (c : Container) → container_at l n ≡ Some c → HasRoom l n → Room c
room_of l n c is room =
    let same : room.container ≡ c = cc (sym room.there ∙ is) in
    subst Room same (room.opened, room.few)

-- one that has room still
pub listed_kept : (l other : List Container) (roomy : List ℕ) (number : ℕ) (c : Container) → DifferAt number l other → container_at other number ≡ Some c → Room c → HasRoom l number → IsListed l roomy → IsListed other roomy
listed_kept l other roomy number c differ is room had listed n = elim (same_or_not n number) [
  | inl same ↦ (
    λ among. subst (HasRoom other) (sym same) (record { container = c; there = is; opened = room.0; few = room.1 }),
    λ has. subst (IsAmong roomy) (sym same) ((listed number).1 had),
  )
  | inr other_one ↦ (
    λ among. moved l other n (differ n other_one) ((listed n).0 among),
    λ has. (listed n).1 (moved other l n (sym (differ n other_one)) has),
  )
]

-- one that has room no more
pub listed_gone : (l other : List Container) (roomy left : List ℕ) (number : ℕ) (c : Container) → DifferAt number l other → container_at other number ≡ Some c → ¬ Room c → left ≡ filter (λ n. not (nat_eq n number)) roomy → IsListed l roomy → IsListed other left
listed_gone l other roomy left number c differ is full left_is listed n = subst (λ (l : List ℕ). IsAmong l n ↔ HasRoom other n) (sym left_is) (
  λ among. let gone = gone_to number n roomy among in moved l other n (differ n gone.1) ((listed n).0 gone.0),
  λ has. elim (same_or_not n number) [
    | inl same ↦ absurd (full (room_of other number c is (subst (HasRoom other) same has)))
    | inr other_one ↦ gone_from number n roomy ((listed n).1 (moved other l n (sym (differ n other_one)) has)) other_one
  ],
)

-- a new one that has room
pub listed_more : (l other : List Container) (roomy : List ℕ) (number : ℕ) (c : Container) → DifferAt number l other → container_at other number ≡ Some c → Room c → container_at l number ≡ None → IsListed l roomy → IsListed other (roomy ++ number ∷ [])
listed_more l other roomy number c differ is room none listed n = (
  λ among. elim (among_cases roomy number n among) [
    | inl front ↦ moved l other n (differ n (not_number n front)) ((listed n).0 front)
    | inr last ↦ subst (HasRoom other) last (record { container = c; there = is; opened = room.0; few = room.1 })
  ],
  λ has. elim (same_or_not n number) [
    | inl same ↦ subst (IsAmong (roomy ++ number ∷ [])) (sym same) (among_last roomy number)
    | inr other_one ↦ among_left roomy (number ∷ []) n ((listed n).1 (moved other l n (sym (differ n other_one)) has))
  ],
)
  where
    not_number : (n : ℕ) → IsAmong roomy n → ¬ (n ≡ number)
    not_number n front same =
        let had = (listed n).0 front in
        absurd (cc (sym (ap (container_at l) same ∙ none) ∙ had.there))

-- ---- what stays sound

abbrev OnPipeline : ℕ → Container → Type 0
OnPipeline nodes container = container.pipeline < pipelines_of nodes

raised : (before after : ℕ) (l : List Container) → before ≤ after → All (λ (c : Container). c.granted < before) l → All (λ (c : Container). c.granted < after) l
raised before after l le all k d lt = omega (arith, all k d lt, le)

pub sound_set : (made : Made) (first count place : ℕ) (c : Container) → first ≡ made.next_id → count ≡ 64 → first + 64 ≤ 4611686018427387904 → c.pipeline < pipelines_of made.nodes → c.granted < first + count → IsSound made
    → IsSound (record { nodes = made.nodes; containers = slice_set made.containers place c; next_id = first + count; last_txn = made.last_txn; unretired = made.unretired })
sound_set made first count place c next whole fits on some sound = record {
  least = sound.least;
  most = sound.most;
  pipelines = All-set (OnPipeline made.nodes) made.containers place c on sound.pipelines;
  granted = All-set (λ (c : Container). c.granted < first + count) made.containers place c some (raised made.next_id (first + count) made.containers (omega (arith, next)) sound.granted);
  few = let size = length-set made.containers place c in omega (arith, size, sound.few, next);
  within = omega (arith, fits, whole);
  below = sound.below;
  counted = sound.counted;
}

length-push : (l : List Container) (c : Container) → length (l ++ c ∷ []) ≡ length l + 1
length-push [] c = refl
length-push (x ∷ l) c = let rest = length-push l c in omega (arith, rest)

pub sound_push : (made : Made) (first count : ℕ) (c : Container) → first ≡ made.next_id → count ≡ 64 → first + 64 ≤ 4611686018427387904 → c.pipeline < pipelines_of made.nodes → c.granted < first + count → IsSound made
    → IsSound (record { nodes = made.nodes; containers = made.containers ++ c ∷ []; next_id = first + count; last_txn = made.last_txn; unretired = made.unretired })
sound_push made first count c next whole fits on some sound = record {
  least = sound.least;
  most = sound.most;
  pipelines = All-append (OnPipeline made.nodes) made.containers (c ∷ []) sound.pipelines (All-cons (OnPipeline made.nodes) c [] on (All-nil (OnPipeline made.nodes)));
  granted = All-append (λ (c : Container). c.granted < first + count) made.containers (c ∷ []) (raised made.next_id (first + count) made.containers (omega (arith, next)) sound.granted)
      (All-cons (λ (c : Container). c.granted < first + count) c [] some (All-nil (λ (c : Container). c.granted < first + count)));
  few = let size = length-push made.containers c in omega (arith, size, sound.few, next, whole);
  within = omega (arith, fits, whole);
  below = sound.below;
  counted = sound.counted;
}

-- ---- what a grant makes

pub granted_is : (made : Made) (grant : Grant) (o : Option Container) (c : Container) (l : List Container) → c ≡ granted_in o grant.pipeline grant.count → o ≡ container_at made.containers grant.container → l ≡ with_container grant.container c made.containers
    → ◌≡◌ {A = Made} (record { nodes = made.nodes; containers = l; next_id = grant.first + grant.count; last_txn = made.last_txn; unretired = made.unretired }) (after_grant grant made)
granted_is made grant o c l c_is o_is l_is =
    ap (λ (l : List Container). record { nodes = made.nodes; containers = l; next_id = grant.first + grant.count; last_txn = made.last_txn; unretired = made.unretired })
    (l_is ∙ ap (λ (c : Container). with_container grant.container c made.containers) (c_is ∙ ap (λ (o : Option Container). granted_in o grant.pipeline grant.count) o_is))

-- ---- what containers in memory keep

abbrev Kept : Log → ℕ → ℕ → List Container → List ℕ → Type 0
Kept log nodes next l roomy = IsSound (made_of log nodes next l) × IsListed l roomy

-- the same in memory, with more room
pub same_kept : (log : Log) (nodes next : ℕ) (l other : List Container) (roomy listed : List ℕ) → other ≡ l → listed ≡ roomy → Kept log nodes next l roomy → Kept log nodes next other listed
same_kept log nodes next l other roomy listed one two kept =
    subst (λ (o : List Container). Kept log nodes next o listed) (sym one) (subst (λ (r : List ℕ). Kept log nodes next l r) (sym two) kept)

all_at : (P : Container → Type 0) (l : List Container) (i : ℕ) (c : Container) → All P l → slice_get l i ≡ Some c → P c
all_at P [] i c all is = absurd (cc is)
all_at P (x ∷ l) zero c all is = let same : x ≡ c = cc is in subst P same (all 0 x (omega arith))
all_at P (x ∷ l) (suc i) c all is = all_at P l i c (λ k d lt. all (suc k) d (omega (arith, lt))) is

all_number : (P : Container → Type 0) (l : List Container) (number : ℕ) (c : Container) → All P l → container_at l number ≡ Some c → P c
all_number P l zero c all is = absurd (cc is)
all_number P l (suc i) c all is = all_at P l i c all is

module _ (log : Log) (nodes next : ℕ) (l : List Container) (roomy : List ℕ) (grant : Grant) (may : MayGrant (made_of log nodes next l) grant) (kept : Kept log nodes next l roomy) where
  first_is : grant.first ≡ next
  first_is = eqb-true _ _ (and_parts _ _ may.first_is).0

  fits : grant.first + 64 ≤ 4611686018427387904
  fits = leb-true _ _ (and_parts _ _ may.first_is).1

  count_is : grant.count ≡ 64
  count_is = eqb-true _ _ may.count_is

  number_least : 1 ≤ grant.container
  number_least = leb-true _ _ (and_parts _ _ may.container_is).0

  number_most : grant.container ≤ length l + 1
  number_most = leb-true _ _ (and_parts _ _ may.container_is).1

  module _ (old c : Container) (there : container_at l grant.container ≡ Some old) (is : c ≡ granted_in (Some old) grant.pipeline grant.count) where
    pub sound_old : IsSound (made_of log nodes (grant.first + grant.count) (slice_set l (grant.container - 1) c))
    sound_old =
        let on : c.pipeline < pipelines_of nodes = subst (λ (x : Container). x.pipeline < pipelines_of nodes) (sym is) (all_number (OnPipeline nodes) l grant.container old kept.0.pipelines there) in
        let had : old.granted < next = all_number (λ (x : Container). x.granted < next) l grant.container old kept.0.granted there in
        let some : c.granted < grant.first + grant.count = subst (λ (x : Container). x.granted < grant.first + grant.count) (sym is) (omega (arith, had, first_is)) in
        sound_set (made_of log nodes next l) grant.first grant.count (grant.container - 1) c first_is count_is fits on some kept.0

    pub kept_full : (left : List ℕ) → ¬ Room c → left ≡ filter (λ n. not (nat_eq n grant.container)) roomy → Kept log nodes (grant.first + grant.count) (slice_set l (grant.container - 1) c) left
    kept_full left full left_is =
        let within = at_number l grant.container old there in
        (sound_old, listed_gone l (slice_set l (grant.container - 1) c) roomy left grant.container c (differ_set l grant.container c within.0) (at_set l grant.container c within.0 within.1) full left_is kept.1)

    pub kept_roomy : Room c → Kept log nodes (grant.first + grant.count) (slice_set l (grant.container - 1) c) roomy
    kept_roomy room =
        let within = at_number l grant.container old there in
        let had : Room old = (ap (λ (x : Container). x.state) (sym is) ∙ room.0, omega (arith, room.1, ap (λ (x : Container). x.granted) is)) in (
          sound_old,
          listed_kept l (slice_set l (grant.container - 1) c) roomy grant.container c (differ_set l grant.container c within.0) (at_set l grant.container c within.0 within.1) room
              (record { container = old; there = there; opened = had.0; few = had.1 }) kept.1,
        )

    pub made_old : ◌≡◌ {A = Made} (made_of log nodes (grant.first + grant.count) (slice_set l (grant.container - 1) c)) (after_grant grant (made_of log nodes next l))
    made_old = granted_is (made_of log nodes next l) grant (Some old) c (slice_set l (grant.container - 1) c) is (sym there) (set_is l grant.container c old there)

  module _ (c : Container) (none : container_at l grant.container ≡ None) (is : c ≡ granted_in None grant.pipeline grant.count) where
    new_number : grant.container ≡ length l + 1
    new_number = next_at l grant.container none number_least number_most

    pub kept_new : (other : List Container) (listed : List ℕ) → other ≡ l ++ c ∷ [] → listed ≡ roomy ++ grant.container ∷ [] → Kept log nodes (grant.first + grant.count) other listed
    kept_new other listed one two =
        let on_is : is_on nodes None grant.pipeline ≡ true = subst (λ (o : Option Container). is_on nodes o grant.pipeline ≡ true) none may.pipeline_is in
        let on : c.pipeline < pipelines_of nodes = subst (λ (x : Container). x.pipeline < pipelines_of nodes) (sym is) (ltb-true _ _ on_is) in
        let some : c.granted < grant.first + grant.count = subst (λ (x : Container). x.granted < grant.first + grant.count) (sym is) (omega (arith, first_is, kept.0.few)) in
        let room : Room c = (ap (λ (x : Container). x.state) is, omega (arith, count_is, ap (λ (x : Container). x.granted) is)) in
        let both : Kept log nodes (grant.first + grant.count) (l ++ c ∷ []) (roomy ++ grant.container ∷ []) = (
          sound_push (made_of log nodes next l) grant.first grant.count c first_is count_is fits on some kept.0,
          listed_more l (l ++ c ∷ []) roomy grant.container c (differ_push l grant.container c new_number) (at_push l grant.container c new_number) room none kept.1,
        ) in
        same_kept log nodes (grant.first + grant.count) (l ++ c ∷ []) other (roomy ++ grant.container ∷ []) listed one two both

    pub made_new : (other : List Container) → other ≡ l ++ c ∷ [] → ◌≡◌ {A = Made} (made_of log nodes (grant.first + grant.count) other) (after_grant grant (made_of log nodes next l))
    made_new other one = granted_is (made_of log nodes next l) grant None c other is (sym none) (one ∙ push_is l grant.container c none number_least number_most)

-- ---- what a step makes

-- no event leads to an open one
never_open : (state : State) (event : Event) → next_state state event ≡ Some Open → ⊥
never_open states.Open events.Finalize is = absurd (cc is)
never_open states.Open events.QuasiClose is = absurd (cc is)
never_open states.Open events.Close is = absurd (cc is)
never_open states.Open events.ForceClose is = absurd (cc is)
never_open states.Open events.Delete is = absurd (cc is)
never_open states.Open events.Cleanup is = absurd (cc is)
never_open states.Closing events.Finalize is = absurd (cc is)
never_open states.Closing events.QuasiClose is = absurd (cc is)
never_open states.Closing events.Close is = absurd (cc is)
never_open states.Closing events.ForceClose is = absurd (cc is)
never_open states.Closing events.Delete is = absurd (cc is)
never_open states.Closing events.Cleanup is = absurd (cc is)
never_open states.QuasiClosed events.Finalize is = absurd (cc is)
never_open states.QuasiClosed events.QuasiClose is = absurd (cc is)
never_open states.QuasiClosed events.Close is = absurd (cc is)
never_open states.QuasiClosed events.ForceClose is = absurd (cc is)
never_open states.QuasiClosed events.Delete is = absurd (cc is)
never_open states.QuasiClosed events.Cleanup is = absurd (cc is)
never_open states.Closed events.Finalize is = absurd (cc is)
never_open states.Closed events.QuasiClose is = absurd (cc is)
never_open states.Closed events.Close is = absurd (cc is)
never_open states.Closed events.ForceClose is = absurd (cc is)
never_open states.Closed events.Delete is = absurd (cc is)
never_open states.Closed events.Cleanup is = absurd (cc is)
never_open states.Deleting events.Finalize is = absurd (cc is)
never_open states.Deleting events.QuasiClose is = absurd (cc is)
never_open states.Deleting events.Close is = absurd (cc is)
never_open states.Deleting events.ForceClose is = absurd (cc is)
never_open states.Deleting events.Delete is = absurd (cc is)
never_open states.Deleting events.Cleanup is = absurd (cc is)
never_open states.Deleted events.Finalize is = absurd (cc is)
never_open states.Deleted events.QuasiClose is = absurd (cc is)
never_open states.Deleted events.Close is = absurd (cc is)
never_open states.Deleted events.ForceClose is = absurd (cc is)
never_open states.Deleted events.Delete is = absurd (cc is)
never_open states.Deleted events.Cleanup is = absurd (cc is)

-- a container after an event, and what it was
pub record Led (o : Option Container) (event : Event) (c : Container) : Type 0 where
  pub old : Container
  pub there : o ≡ Some old
  pub pipeline : c.pipeline ≡ old.pipeline
  pub granted : c.granted ≡ old.granted
  pub left : next_state old.state event ≡ Some c.state

pub led_of : (o : Option Container) (event : Event) (c : Container) → stepped o event ≡ Some c → Led o event c
led_of None event c is = absurd (cc is)
led_of (Some old) event c is = of (next_state old.state event) refl is
  where
    of : (to : Option State) → next_state old.state event ≡ to → option_map (λ (state : State). record old { state = state }) to ≡ Some c → Led (Some old) event c
    of None to is = absurd (cc is)
    of (Some state) to is =
        let same : ◌≡◌ {A = Container} (record old { state = state }) c = cc is in
        record {
          old = old;
          there = refl;
          pipeline = ap (λ (x : Container). x.pipeline) (sym same);
          granted = ap (λ (x : Container). x.granted) (sym same);
          left = to ∙ ap (λ (x : Container). Some x.state) same;
        }

module _ (log : Log) (nodes next : ℕ) (l : List Container) (roomy : List ℕ) (number : ℕ) (event : Event) (c : Container) (is : stepped (container_at l number) event ≡ Some c) (kept : Kept log nodes next l roomy) where
  led : Led (container_at l number) event c
  led = led_of (container_at l number) event c is

  sound_step : IsSound (made_of log nodes next (slice_set l (number - 1) c))
  sound_step =
      let on : c.pipeline < pipelines_of nodes = subst (λ (n : ℕ). n < pipelines_of nodes) (sym led.pipeline) (all_number (OnPipeline nodes) l number led.old kept.0.pipelines led.there) in
      let had : led.old.granted < next = all_number (λ (x : Container). x.granted < next) l number led.old kept.0.granted led.there in
      let some : c.granted < next = subst (λ (n : ℕ). n < next) (sym led.granted) had in
      record {
        least = kept.0.least;
        most = kept.0.most;
        pipelines = All-set (OnPipeline nodes) l (number - 1) c on kept.0.pipelines;
        granted = All-set (λ (c : Container). c.granted < next) l (number - 1) c some kept.0.granted;
        few = let size = length-set l (number - 1) c in omega (arith, size, kept.0.few);
        within = kept.0.within;
        below = kept.0.below;
        counted = kept.0.counted;
      }

  pub kept_step : (left : List ℕ) → left ≡ filter (λ n. not (nat_eq n number)) roomy → Kept log nodes next (slice_set l (number - 1) c) left
  kept_step left left_is =
      let within = at_number l number led.old led.there in (
        sound_step,
        listed_gone l (slice_set l (number - 1) c) roomy left number c (differ_set l number c within.0) (at_set l number c within.0 within.1)
            (λ room. never_open led.old.state event (led.left ∙ ap (λ (s : State). Some s) room.0)) left_is kept.1,
      )

  pub made_step : ◌≡◌ {A = Made} (made_of log nodes next (slice_set l (number - 1) c)) (after_step number event (made_of log nodes next l))
  made_step =
      ap (made_of log nodes next) (set_is l number c led.old led.there ∙ sym (ap (λ (o : Option Container). with_stepped number o l) is))

-- ---- whether a container may take a grant

pub may_be : (r : Bool) (P M : Type 0) → ((r ≡ true → P) × (P → r ≡ true)) → (¬ P → M) → (M → ¬ P) → (IsTrue (not r) → M) × (M → IsTrue (not r))
may_be true P M decides make away = (λ f. absurd (false≢true f), λ m. absurd (away m (decides.0 refl)))
may_be false P M decides make away = (λ t. make (λ p. false≢true (decides.1 p)), λ m. refl)
