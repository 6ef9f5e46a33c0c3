-- Blocks that left reach.
use Rattle.std.proofs.Common.{
  ◌≡◌,
  ⊎_elim,
  ℕ,
  zero,
  suc,
  ◌≤◌,
  ◌-◌,
  true,
  List,
  [],
  ◌∷◌,
  ◌++◌,
  take,
  drop,
  Option,
  Contains,
  inl,
  inr,
  sym,
  ap,
  subst,
  append-nil,
  arith,
}
use Rattle.std.proofs.lemmas.List.{take-append-drop}
use Rattle.std.proofs.lemmas.List.Elements.{Contains-append_left, Contains-push_cases, filter_map-append}
use Rattle.oz_fields.specs.declared.block.Block.{Block}
use Rattle.oz_namespace.specs.declared.namespace.Namespace.{Namespace}
use Rattle.oz_requests.specs.declared.reply.Reply.{Reply}
use Rattle.oz_requests.specs.declared.reply.Reply.TheVariants as replies
use Rattle.oz_requests.specs.declared.request.Request.{Request}
use Rattle.oz_requests.specs.declared.request.Request.TheVariants.{AllocateBlock}
use Rattle.oz_requests.specs.Names.{volume_in}
use Rattle.oz_model.specs.Answers.{Answers, after}
use Rattle.oz_model.specs.Buckets.{granted_by}
use Rattle.oz_model.specs.Reach.{IsReached}
use Rattle.oz_model.specs.Refusals.{refusal}
use Rattle.oz_model.specs.Scope.{scope_of}
use Rattle.oz_model.specs.laws.Grants.{grants_none}
use Rattle.oz_model.specs.laws.Reaches.{reach_grows}
use Rattle.oz_core.specs.declared.event.Event.{Event}
use Rattle.oz_core.specs.declared.event.EventKind.{EventKind}
use Rattle.oz_core.specs.declared.event.EventKind.TheVariants.{Decide}
use Rattle.oz_core.specs.declared.opening.Opening.{Opening}
use Rattle.oz_core.specs.Asks.{pending}
use Rattle.oz_core.specs.Law.{IsLegal, IsLegalFrom, KindIsEnabled, GrantIsAllowed}
use Rattle.oz_core.specs.Manager.{IsUsed, granted_block, namespace_step, namespace_after, namespace_of, namespace_at}
use Rattle.oz_core.specs.Stories.{all_told}
use Rattle.oz_kept.specs.laws.Places.{moved_over, legal_behind, legal_first, legal_rest, namespace_next, later_front}

-- what was used stays so
pub used_still : (opening : Opening) (before more : List Event) (block : Block) → IsUsed opening before block → IsUsed opening (before ++ more) block
used_still opening before more block (inl reached) = inl reached
used_still opening before more block (inr (inl left)) = inr (inl left)
used_still opening before more block (inr (inr (inl logged))) = inr (inr (inl logged))
used_still opening before more block (inr (inr (inr granted))) =
    let told = λ (event : Event). granted_block event.kind in
    inr (inr (inr (subst (λ (l : List Block). Contains l block) (sym (filter_map-append told before more))
    (Contains-append_left (all_told granted_block before) (all_told granted_block more) block granted))))

pub in_none : {A : Type 0} (x : A) → Contains [] x → ⊥
in_none x among = absurd (omega (arith, among.1))

pub in_one : {A : Type 0} (y x : A) → Contains (y ∷ []) x → y ≡ x
in_one y x among = ⊎_elim (λ none. absurd (in_none x none)) (λ same. same) (Contains-push_cases [] y x among)

-- a block that is granted wasn't used
pub granted_anew : (opening : Opening) (before : List Event) (namespace : Namespace) (request : Request) (reply : Reply) (block : Block)
    → Answers namespace request reply → GrantIsAllowed opening before request reply → IsUsed opening before block → Contains (granted_by reply) block → ⊥
unfolding Answers
granted_anew opening before namespace (AllocateBlock volume bucket key session exclude) (replies.Granted other pipeline) block answers allowed used granted =
    allowed.unused (subst (IsUsed opening before) (sym (in_one other block granted)) used)
granted_anew opening before namespace (AllocateBlock volume bucket key session exclude) reply block answers allowed used granted = in_none block granted
granted_anew opening before namespace request reply block answers allowed used granted =
    let none = grants_none (refusal (scope_of namespace (volume_in request)) request) (scope_of namespace (volume_in request)) request reply
    (λ e. absurd cc) answers in
    in_none block (subst (λ (l : List Block). Contains l block) none granted)

-- what an event makes of the namespace reaches no used block that it didn't reach
step_away : (opening : Opening) (before : List Event) (seat : ℕ) (kind : EventKind) (block : Block) → KindIsEnabled opening before seat kind
    → IsUsed opening before block → (IsReached (namespace_of opening before) block → ⊥)
    → IsReached (namespace_step (λ index. true) before (namespace_of opening before) kind) block → ⊥
step_away opening before seat (Decide id index reply batch) block enabled used away reached =
    let asked : namespace_after (pending id before) (namespace_of opening before) reply ≡ after (namespace_of opening before) enabled.request reply =
    ap (λ (o : Option Request). namespace_after o (namespace_of opening before) reply) enabled.undecided in
    let grown = reach_grows block (namespace_of opening before) enabled.request reply enabled.one_thread
    (subst (λ (n : Namespace). IsReached n block) asked reached) in
    ⊎_elim away (granted_anew opening before (namespace_of opening before) enabled.request reply block enabled.one_thread enabled.granted used) grown
step_away opening before seat kind block enabled used away reached = away reached

pub stays_away : (opening : Opening) (block : Block) (rest before : List Event) (n : ℕ) → IsLegalFrom opening before rest → IsUsed opening before block
    → (IsReached (namespace_of opening before) block → ⊥) → IsReached (namespace_of opening (before ++ take n rest)) block → ⊥
stays_away opening block [] before zero legal used away reached =
    away (subst (λ (l : List Event). IsReached (namespace_of opening l) block) (append-nil before) reached)
stays_away opening block [] before (suc n) legal used away reached =
    away (subst (λ (l : List Event). IsReached (namespace_of opening l) block) (append-nil before) reached)
stays_away opening block (event ∷ rest) before zero legal used away reached =
    away (subst (λ (l : List Event). IsReached (namespace_of opening l) block) (append-nil before) reached)
stays_away opening block (event ∷ rest) before (suc n) legal used away reached =
    let next = step_away opening before event.seat event.kind block (legal_first opening before event rest legal) used away in
    stays_away opening block rest (before ++ event ∷ []) n (legal_rest opening before event rest legal) (used_still opening before (event ∷ []) block used)
    (λ there. next (subst (λ (m : Namespace). IsReached m block) (namespace_next opening before event) there))
    (subst (λ (l : List Event). IsReached (namespace_of opening l) block) (sym (moved_over before (take n rest) event)) reached)

pub never_back : (opening : Opening) (story : List Event) (block : Block) (place later : ℕ) → IsLegal opening story → place ≤ later
    → IsUsed opening (take place story) block → (IsReached (namespace_at opening story place) block → ⊥)
    → IsReached (namespace_at opening story later) block → ⊥
never_back opening story block place later legal le used away reached =
    let behind = legal_behind opening [] (take place story) (drop place story) (subst (IsLegalFrom opening []) (sym (take-append-drop place story)) legal) in
    stays_away opening block (drop place story) (take place story) (later - place) behind used away
    (subst (λ (l : List Event). IsReached (namespace_of opening l) block) (later_front story place later le) reached)
