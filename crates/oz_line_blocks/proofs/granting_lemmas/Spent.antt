-- What a stripe was granted is spent as long as the storage container manager grants nothing.
use Rattle.std.specs.Prelude.{◌==◌, Contains}
use Rattle.std.specs.List.{AllByRecursion}
use Rattle.std.proofs.Common.{◌≡◌, ⊎_elim, inl, inr, ℕ, Bool, true, false, List, [], ◌∷◌, ◌++◌, Err, cond, refl, sym, ◌∙◌, subst, append-nil, eq-eqb}
use Rattle.std.proofs.lemmas.Bool.{false≢true}
use Rattle.std.proofs.lemmas.List.Elements.{All-contains, All-from_recursion, Contains-append_cases, Contains-append_left, filter_map-append}
use Rattle.oz_core.specs.declared.event.Event.{Event}
use Rattle.oz_core.specs.declared.event.EventKind.{EventKind}
use Rattle.oz_core.specs.declared.event.EventKind.TheVariants.{Grant}
use Rattle.oz_core.specs.declared.opening.Opening.{Opening}
use Rattle.oz_core.specs.Contents.{OpeningBytes}
use Rattle.oz_core.specs.Grants.{IsSpent}
use Rattle.oz_core.specs.Law.{KindIsEnabled}
use Rattle.oz_core.specs.Manager.{granted_block, IsUsed}
use Rattle.oz_core.specs.Seats.{scm_seat}
use Rattle.oz_core.specs.Stories.{all_told}
use Rattle.oz_fields.specs.declared.block.Block.{Block}
use Rattle.oz_script.specs.declared.lines.script.Script.{Script}
use Rattle.oz_requests.specs.declared.request.Exclude.{Exclude}
use Rattle.oz_scm.specs.declared.fault.GrantFault.{GrantFault}
use Rattle.oz_scm.specs.declared.fault.GrantFault.TheVariants.{Stopped, NoPipeline, Excluded, IdsSpent, OutOfMemory}
use Rattle.oz_buffer.specs.Buffer.{AllFollow, Follows}
use Rattle.oz_buffer.specs.laws.Following.{follow-all}
use Rattle.oz_scm_events.specs.Granted.{own_after}
use Rattle.oz_line_blocks.proofs.granting_lemmas.Still.{own, own-append, same_rest}

abbrev pub grants : EventKind → Bool
grants (Grant stripe container pipeline first count) = true
grants kind = false

abbrev pub GrantsNothing : List Event → Type 0
GrantsNothing story = AllByRecursion (λ (event : Event). grants event.kind ≡ false) story

-- a refusal tells at most of a halt
pub record Refuses (before after : List Event) : Type 0 where
  pub more : List Event
  pub parts : after ≡ before ++ more
  pub none : GrantsNothing more

pub refuses : (stopped : Bool) (stripe : ℕ) (mine : List Event) (fault : GrantFault) → Refuses mine (own_after stopped stripe mine (Err fault))
refuses true stripe mine fault = record { more = []; parts = sym (append-nil mine); none = tt }
refuses false stripe mine (Stopped count) = record { more = _; parts = refl; none = (refl, tt) }
refuses false stripe mine NoPipeline = record { more = []; parts = sym (append-nil mine); none = tt }
refuses false stripe mine Excluded = record { more = []; parts = sym (append-nil mine); none = tt }
refuses false stripe mine (IdsSpent next count) = record { more = []; parts = sym (append-nil mine); none = tt }
refuses false stripe mine OutOfMemory = record { more = []; parts = sym (append-nil mine); none = tt }

-- ---- Grants are the storage container manager's

scm_grants : (opening : Opening) (story : List Event) (seat : ℕ) (kind : EventKind) → KindIsEnabled opening story seat kind → grants kind ≡ true → seat ≡ scm_seat
scm_grants opening story seat (Grant stripe container pipeline first count) enabled is = enabled.of_scm
scm_grants opening story seat kind enabled is = absurd (false≢true is)

-- where its own events grant nothing, and each Grant is its own, none of them is a Grant
none_granted : (story : List Event) → AllByRecursion (λ (event : Event). grants event.kind ≡ true → event.seat ≡ scm_seat) story → GrantsNothing (own scm_seat story) → GrantsNothing story
none_granted [] its none = tt
none_granted (event ∷ story) its none = by (event.seat == scm_seat) refl (none_granted story its.1)
  where
    not : (g : Bool) → grants event.kind ≡ g → (event.seat == scm_seat) ≡ false → grants event.kind ≡ false
    not true grant is = absurd (false≢true (sym is ∙ eq-eqb event.seat scm_seat (its.0 grant)))
    not false other is = other

    by : (t : Bool) → (event.seat == scm_seat) ≡ t → (GrantsNothing (own scm_seat story) → GrantsNothing story) → GrantsNothing (event ∷ story)
    by true is rest =
        let first : GrantsNothing (event ∷ own scm_seat story) = subst (λ (t : Bool). GrantsNothing (cond t (event ∷ own scm_seat story) (own scm_seat story))) is none in
        (first.0, rest first.1)
    by false is rest =
        let behind : GrantsNothing (own scm_seat story) = subst (λ (t : Bool). GrantsNothing (cond t (event ∷ own scm_seat story) (own scm_seat story))) is none in
        (not (grants event.kind) refl is, rest behind)

used_later : (opening : Opening) (seen more : List Event) (block : Block) → IsUsed opening seen block → IsUsed opening (seen ++ more) block
used_later opening seen more block used =
    ⊎_elim (λ reached. inl reached) (λ rest. inr (
    ⊎_elim (λ left. inl left) (λ rest. inr (
    ⊎_elim (λ logged. inl logged) (λ granted. inr (
    subst (λ (l : List Block). Contains l block) (sym (filter_map-append (λ (event : Event). granted_block event.kind) seen more))
    (Contains-append_left (all_told granted_block seen) (all_told granted_block more) block granted)))
    rest)) rest)) used

module _ (Coherent : Type 0) (opening : Opening) (bytes : OpeningBytes) (script : Script) (coherent : Coherent) where
  abbrev Follow : List Event → Event → Type 0
  Follow = Follows Coherent opening bytes script

  all_its : (before story : List Event) → AllFollow Follow before story → AllByRecursion (λ (event : Event). grants event.kind ≡ true → event.seat ≡ scm_seat) story
  all_its before story all =
      follow-all Follow (λ (event : Event). grants event.kind ≡ true → event.seat ≡ scm_seat) before story
      (λ front event follows. scm_grants opening front event.seat event.kind (follows.enabled coherent)) all

  spent_behind : (seen more : List Event) (stripe : ℕ) (exclude : Exclude) → GrantsNothing more → IsSpent opening seen stripe exclude → IsSpent opening (seen ++ more) stripe exclude
  spent_behind seen more stripe exclude none spent block pipeline of =
      let event : Event = record { seat = of.seat; kind = Grant stripe block.container pipeline of.first of.count } in
      ⊎_elim
      (λ there. ⊎_elim (λ used. inl (used_later opening seen more block used)) (λ excluded. inr excluded)
      (spent block pipeline (record { seat = of.seat; first = of.first; count = of.count; there = there; place = of.place; within = of.within; local = of.local })))
      (λ there. absurd (false≢true (sym
      (All-contains (λ (e : Event). grants e.kind ≡ false) more event (All-from_recursion (λ (e : Event). grants e.kind ≡ false) more none) there))))
      (Contains-append_cases seen more event of.there)

  pub spent_on : (seen more : List Event) (mine : List Event) (stripe : ℕ) (exclude : Exclude) → AllFollow Follow seen more
      → own scm_seat (seen ++ more) ≡ mine → Refuses (own scm_seat seen) mine → IsSpent opening seen stripe exclude → IsSpent opening (seen ++ more) stripe exclude
  spent_on seen more mine stripe exclude all gave refused spent =
      let its : own scm_seat more ≡ refused.more = same_rest (own scm_seat seen) (own scm_seat more) refused.more
      (sym (own-append scm_seat seen more) ∙ (gave ∙ refused.parts)) in
      spent_behind seen more stripe exclude (none_granted more (all_its seen more all) (subst GrantsNothing (sym its) refused.none)) spent
