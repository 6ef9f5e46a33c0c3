-- The state of a container when a story has one more event.
use Rattle.std.proofs.Common.{◌≡◌, ℕ, ◌+◌, ◌<◌, ◌==◌, Bool, true, false, cond, List, length, take, get_or, Option, Some, None, refl, sym, ◌∙◌, ap, arith}
use Rattle.std.proofs.lemmas.Bool.{eqb-true, eq-eqb, ne_eqb}
use Rattle.std.proofs.lemmas.List.Sums.{fold_more}
use Rattle.std.specs.Cmp.{unsigned_ties, nat_cmp_total}
use Rattle.std.specs.FinMap.{get, insert, get-insert}
use Rattle.std.specs.Option.{option_and, unwrap_or}
use Rattle.oz_container.specs.declared.state.State.{State}
use Rattle.oz_container.specs.declared.state.State.TheVariants.{Open}
use Rattle.oz_core.specs.declared.event.Event.{Event}
use Rattle.oz_core.specs.declared.event.EventKind.{EventKind}
use Rattle.oz_core.specs.declared.event.EventKind.TheVariants as kind
use Rattle.oz_core.specs.declared.opening.Container.{Container}
use Rattle.oz_core.specs.declared.opening.Opening.{Opening}
use Rattle.oz_core.specs.Scm.{Containers, containers, containers_after, granted_in, come_to}
use Rattle.oz_scm_law.specs.Words.{state_in, state_after, granted_to, granted_after}

differ : (a b : ℕ) → (a == b) ≡ false → a ≡ b → ⊥
differ a b apart is = let clash : true ≡ false = sym (eq-eqb a b is) ∙ apart in cc

-- the number that was put, and each other
put : (before : Containers) (number other : ℕ) (container : Container) → other ≡ number → get (insert before other container) number ≡ Some container
put before number other container is = get-insert nat_cmp_total before other container number ∙ ap (λ (b : Bool). cond b (Some container) (get before number)) (sym (unsigned_ties number other) ∙ eq-eqb number other (sym is))

kept : (before : Containers) (number other : ℕ) (container : Container) → (other ≡ number → ⊥) → get (insert before other container) number ≡ get before number
kept before number other container apart = get-insert nat_cmp_total before other container number ∙ ap (λ (b : Bool). cond b (Some container) (get before number)) (sym (unsigned_ties number other) ∙ ne_eqb number other (λ e. apart (sym e)))

granted_state : (before : Option Container) (pipeline count : ℕ) → state_in (Some (granted_in before pipeline count)) ≡ Some (unwrap_or (state_in before) Open)
granted_state None pipeline count = refl
granted_state (Some container) pipeline count = refl

granted-go : (before : Containers) (number other pipeline count : ℕ) (b : Bool) → (other == number) ≡ b → state_in (get (insert before other (granted_in (get before other) pipeline count)) number) ≡ cond b (Some (unwrap_or (state_in (get before number)) Open)) (state_in (get before number))
granted-go before number other pipeline count true e =
    let is : other ≡ number = eqb-true other number e in
    ap state_in (put before number other (granted_in (get before other) pipeline count) is)
    ∙ granted_state (get before other) pipeline count
    ∙ ap (λ (n : ℕ). Some (unwrap_or (state_in (get before n)) Open)) is
granted-go before number other pipeline count false e =
    ap state_in (kept before number other (granted_in (get before other) pipeline count) (differ other number e))

come-none : (before : Containers) (number other : ℕ) (state : State) → get before other ≡ None → (b : Bool) → (other == number) ≡ b → state_in (get before number) ≡ cond b (option_and (state_in (get before number)) (Some state)) (state_in (get before number))
come-none before number other state there true e =
    let none : get before number ≡ None = ap (λ (n : ℕ). get before n) (sym (eqb-true other number e)) ∙ there in
    ap state_in none ∙ sym (ap (λ (o : Option Container). option_and (state_in o) (Some state)) none)
come-none before number other state there false e = refl

come-some : (before : Containers) (number other : ℕ) (state : State) (container : Container) → get before other ≡ Some container → (b : Bool) → (other == number) ≡ b → state_in (get (insert before other (record container { state = state })) number) ≡ cond b (option_and (state_in (get before number)) (Some state)) (state_in (get before number))
come-some before number other state container there true e =
    let is : other ≡ number = eqb-true other number e in
    let here : get before number ≡ Some container = ap (λ (n : ℕ). get before n) (sym is) ∙ there in
    ap state_in (put before number other (record container { state = state }) is)
    ∙ sym (ap (λ (o : Option Container). option_and (state_in o) (Some state)) here)
come-some before number other state container there false e =
    ap state_in (kept before number other (record container { state = state }) (differ other number e))

come : (before : Containers) (number other : ℕ) (state : State) (was : Option Container) → get before other ≡ was → state_in (get (come_to before other state was) number) ≡ cond (other == number) (option_and (state_in (get before number)) (Some state)) (state_in (get before number))
come before number other state None there = come-none before number other state there (other == number) refl
come before number other state (Some container) there = come-some before number other state container there (other == number) refl

state-after : (before : Containers) (number : ℕ) (kind : EventKind) → state_in (get (containers_after before kind) number) ≡ state_after number (state_in (get before number)) kind
state-after before number (kind.Grant stripe container pipeline first count) = granted-go before number container pipeline count (container == number) refl
state-after before number (kind.Closed container state) = come before number container state (get before container) refl
state-after before number (kind.Ask id request) = refl
state-after before number (kind.Decide id index answer batch) = refl
state-after before number (kind.Swap index) = refl
state-after before number (kind.Flushed index moment) = refl
state-after before number (kind.Halt node count) = refl
state-after before number (kind.Up dn) = refl
state-after before number (kind.Down dn) = refl
state-after before number (kind.Put dn block id first count) = refl
state-after before number (kind.Refused dn block id refusal) = refl
state-after before number (kind.Wrote block id) = refl
state-after before number (kind.Bad dn block id) = refl
state-after before number (kind.PurgeAsk blocks) = refl
state-after before number (kind.Log txn container locals) = refl
state-after before number (kind.Delete dn txn locals) = refl
state-after before number (kind.AckDel dn txn) = refl
state-after before number (kind.Retire txn) = refl
state-after before number (kind.Copy source target block) = refl
state-after before number (kind.Stop dn) = refl
state-after before number (kind.Start dn) = refl
state-after before number (kind.Wipe dn) = refl
state-after before number (kind.CloseCommand dn container) = refl
state-after before number (kind.Told client line answer) = refl

pub state_more : (opening : Opening) (story : List Event) (number i : ℕ) (d : Event) → i < length story → state_in (get (containers opening (take (i + 1) story)) number) ≡ state_after number (state_in (get (containers opening (take i story)) number)) (get_or story i d).kind
state_more opening story number i d within =
    ap (λ (m : Containers). state_in (get m number)) (fold_more (λ before (event : Event). containers_after before event.kind) opening.containers story i d within)
    ∙ state-after (containers opening (take i story)) number (get_or story i d).kind

-- ---- the ids that were granted in it

granted_ids : (before : Option Container) (pipeline count : ℕ) → granted_to (Some (granted_in before pipeline count)) ≡ granted_to before + count
granted_ids None pipeline count = omega arith
granted_ids (Some container) pipeline count = refl

ids-go : (before : Containers) (number other pipeline count : ℕ) (b : Bool) → (other == number) ≡ b → granted_to (get (insert before other (granted_in (get before other) pipeline count)) number) ≡ cond b (granted_to (get before number) + count) (granted_to (get before number))
ids-go before number other pipeline count true e =
    let is : other ≡ number = eqb-true other number e in
    ap granted_to (put before number other (granted_in (get before other) pipeline count) is)
    ∙ granted_ids (get before other) pipeline count
    ∙ ap (λ (n : ℕ). granted_to (get before n) + count) is
ids-go before number other pipeline count false e =
    ap granted_to (kept before number other (granted_in (get before other) pipeline count) (differ other number e))

ids-kept-go : (before : Containers) (number other : ℕ) (state : State) (container : Container) → get before other ≡ Some container → (b : Bool) → (other == number) ≡ b → granted_to (get (insert before other (record container { state = state })) number) ≡ granted_to (get before number)
ids-kept-go before number other state container there true e =
    let is : other ≡ number = eqb-true other number e in
    ap granted_to (put before number other (record container { state = state }) is)
    ∙ ap granted_to (sym there ∙ ap (λ (n : ℕ). get before n) is)
ids-kept-go before number other state container there false e =
    ap granted_to (kept before number other (record container { state = state }) (differ other number e))

ids-kept : (before : Containers) (number other : ℕ) (state : State) (was : Option Container) → get before other ≡ was → granted_to (get (come_to before other state was) number) ≡ granted_to (get before number)
ids-kept before number other state None there = refl
ids-kept before number other state (Some container) there = ids-kept-go before number other state container there (other == number) refl

ids-after : (before : Containers) (number : ℕ) (kind : EventKind) → granted_to (get (containers_after before kind) number) ≡ granted_after number (granted_to (get before number)) kind
ids-after before number (kind.Grant stripe container pipeline first count) = ids-go before number container pipeline count (container == number) refl
ids-after before number (kind.Closed container state) = ids-kept before number container state (get before container) refl
ids-after before number kind = refl

pub granted_more : (opening : Opening) (story : List Event) (number i : ℕ) (d : Event) → i < length story → granted_to (get (containers opening (take (i + 1) story)) number) ≡ granted_after number (granted_to (get (containers opening (take i story)) number)) (get_or story i d).kind
granted_more opening story number i d within =
    ap (λ (m : Containers). granted_to (get m number)) (fold_more (λ before (event : Event). containers_after before event.kind) opening.containers story i d within)
    ∙ ids-after (containers opening (take i story)) number (get_or story i d).kind
