-- A container when a story has one more event.
use Rattle.std.proofs.Common.{◌≡◌, ℕ, ◌+◌, ◌<◌, ◌==◌, Bool, true, false, cond, List, length, take, get_or, Option, Some, None, refl, sym, ◌∙◌, ap}
use Rattle.std.proofs.lemmas.Bool.{eqb-true, eq-eqb, ne_eqb}
use Rattle.std.proofs.lemmas.List.Sums.{fold_more}
use Rattle.std.specs.Cmp.{unsigned_ties, nat_cmp_total}
use Rattle.std.specs.FinMap.{get, insert, get-insert}
use Rattle.oz_container.specs.declared.state.State.{State}
use Rattle.oz_core.specs.declared.event.Event.{Event}
use Rattle.oz_core.specs.declared.event.EventKind.{EventKind}
use Rattle.oz_core.specs.declared.event.EventKind.TheVariants as kind
use Rattle.oz_core.specs.declared.opening.Container.{Container}
use Rattle.oz_core.specs.declared.opening.Opening.{Opening}
use Rattle.oz_core.specs.Scm.{Containers, containers, containers_after, granted_in, come_to}
use Rattle.oz_law.specs.Words.{pipeline_in, made_on, pipeline_after}

differ : (a b : ℕ) → (a == b) ≡ false → a ≡ b → ⊥
differ a b apart is = let clash : true ≡ false = sym (eq-eqb a b is) ∙ apart in cc

-- the number that was put, and each other
put : (before : Containers) (number other : ℕ) (container : Container) → other ≡ number → get (insert before other container) number ≡ Some container
put before number other container is = get-insert nat_cmp_total before other container number ∙ ap (λ (b : Bool). cond b (Some container) (get before number)) (sym (unsigned_ties number other) ∙ eq-eqb number other (sym is))

kept : (before : Containers) (number other : ℕ) (container : Container) → (other ≡ number → ⊥) → get (insert before other container) number ≡ get before number
kept before number other container apart = get-insert nat_cmp_total before other container number ∙ ap (λ (b : Bool). cond b (Some container) (get before number)) (sym (unsigned_ties number other) ∙ ne_eqb number other (λ e. apart (sym e)))

granted_on : (before : Option Container) (pipeline count : ℕ) → pipeline_in (Some (granted_in before pipeline count)) ≡ Some (made_on (pipeline_in before) pipeline)
granted_on None pipeline count = refl
granted_on (Some container) pipeline count = refl

granted-go : (before : Containers) (number other pipeline count : ℕ) (b : Bool) → (other == number) ≡ b → pipeline_in (get (insert before other (granted_in (get before other) pipeline count)) number) ≡ cond b (Some (made_on (pipeline_in (get before number)) pipeline)) (pipeline_in (get before number))
granted-go before number other pipeline count true e =
    let is : other ≡ number = eqb-true other number e in
    ap pipeline_in (put before number other (granted_in (get before other) pipeline count) is)
    ∙ granted_on (get before other) pipeline count
    ∙ ap (λ (n : ℕ). Some (made_on (pipeline_in (get before n)) pipeline)) is
granted-go before number other pipeline count false e =
    ap pipeline_in (kept before number other (granted_in (get before other) pipeline count) (differ other number e))

come-go : (before : Containers) (number other : ℕ) (state : State) (container : Container) → get before other ≡ Some container → (b : Bool) → (other == number) ≡ b → pipeline_in (get (insert before other (record container { state = state })) number) ≡ pipeline_in (get before number)
come-go before number other state container there true e =
    let is : other ≡ number = eqb-true other number e in
    ap pipeline_in (put before number other (record container { state = state }) is)
    ∙ ap pipeline_in (sym there ∙ ap (λ (n : ℕ). get before n) is)
come-go before number other state container there false e =
    ap pipeline_in (kept before number other (record container { state = state }) (differ other number e))

come : (before : Containers) (number other : ℕ) (state : State) (was : Option Container) → get before other ≡ was → pipeline_in (get (come_to before other state was) number) ≡ pipeline_in (get before number)
come before number other state None there = refl
come before number other state (Some container) there = come-go before number other state container there (other == number) refl

pipeline-after : (before : Containers) (number : ℕ) (kind : EventKind) → pipeline_in (get (containers_after before kind) number) ≡ pipeline_after number (pipeline_in (get before number)) kind
pipeline-after before number (kind.Grant stripe container pipeline first count) = granted-go before number container pipeline count (container == number) refl
pipeline-after before number (kind.Closed container state) = come before number container state (get before container) refl
pipeline-after before number (kind.Ask id request) = refl
pipeline-after before number (kind.Decide id index answer batch) = refl
pipeline-after before number (kind.Swap index) = refl
pipeline-after before number (kind.Flushed index moment) = refl
pipeline-after before number (kind.Halt node count) = refl
pipeline-after before number (kind.Up dn) = refl
pipeline-after before number (kind.Down dn) = refl
pipeline-after before number (kind.Put dn block id first count) = refl
pipeline-after before number (kind.Refused dn block id refusal) = refl
pipeline-after before number (kind.Wrote block id) = refl
pipeline-after before number (kind.Bad dn block id) = refl
pipeline-after before number (kind.PurgeAsk blocks) = refl
pipeline-after before number (kind.Log txn container locals) = refl
pipeline-after before number (kind.Delete dn txn locals) = refl
pipeline-after before number (kind.AckDel dn txn) = refl
pipeline-after before number (kind.Retire txn) = refl
pipeline-after before number (kind.Copy source target block) = refl
pipeline-after before number (kind.Stop dn) = refl
pipeline-after before number (kind.Start dn) = refl
pipeline-after before number (kind.Wipe dn) = refl
pipeline-after before number (kind.CloseCommand dn container) = refl
pipeline-after before number (kind.Told client line answer) = refl

pub pipeline_more : (opening : Opening) (story : List Event) (number i : ℕ) (d : Event) → i < length story → pipeline_in (get (containers opening (take (i + 1) story)) number) ≡ pipeline_after number (pipeline_in (get (containers opening (take i story)) number)) (get_or story i d).kind
pipeline_more opening story number i d within =
    ap (λ (m : Containers). pipeline_in (get m number)) (fold_more (λ before (event : Event). containers_after before event.kind) opening.containers story i d within)
    ∙ pipeline-after (containers opening (take i story)) number (get_or story i d).kind
