-- A need stays until there is a grant more, and a refusal is one of the whole story.
use Rattle.std.specs.Prelude.{◌==◌, Bool, true, false, All, Contains}
use Rattle.std.specs.List.{AllByRecursion}
use Rattle.std.proofs.Common.{◌≡◌, inl, inr, ⊎_elim, ℕ, List, [], ◌∷◌, ◌++◌, length, refl, sym, ap, ◌∙◌, cond, subst, eq-eqb, arith, length-append}
use Rattle.std.proofs.lemmas.Bool.{false≢true}
use Rattle.std.proofs.lemmas.List.Elements.{All-cons, All-contains, All-from_all_within, AllWithin-none, Contains-append_cases, Contains-append_left, filter-append, filter_map-append}
use Rattle.oz_buffer.specs.Buffer.{AllFollow, Follows}
use Rattle.oz_core.specs.declared.event.Event.{Event}
use Rattle.oz_core.specs.declared.event.EventKind.TheVariants.{Ask, Grant}
use Rattle.oz_core.specs.declared.event.Node.TheVariants.{Scm}
use Rattle.oz_core.specs.declared.opening.Opening.{Opening}
use Rattle.oz_core.specs.Contents.{OpeningBytes}
use Rattle.oz_core.specs.Grants.{IsSpent}
use Rattle.oz_core.specs.Law.{IsNeeded}
use Rattle.oz_core.specs.Manager.{granted_block, halt_of, IsUsed}
use Rattle.oz_core.specs.Scm.{IsOfGrant, ups}
use Rattle.oz_core.specs.Seats.{scm_seat}
use Rattle.oz_core.specs.Stories.{all_told}
use Rattle.oz_fields.specs.declared.block.Block.{Block}
use Rattle.oz_script.specs.declared.lines.script.Script.{Script}
use Rattle.oz_nodes.specs.Pipelines.{IsAnyUp, IsFree}
use Rattle.oz_requests.specs.declared.request.Exclude.{Exclude}
use Rattle.oz_requests.specs.declared.request.Request.TheVariants.{AllocateBlock}
use Rattle.oz_scm.specs.declared.fault.GrantFault.{GrantFault}
use Rattle.oz_scm.specs.declared.fault.GrantFault.TheVariants.{Stopped, NoPipeline, Excluded, IdsSpent, OutOfMemory}
use Rattle.oz_scm_events.specs.Granted.{IsRefusal, IsAnyFree}
use Rattle.oz_scm_events.proofs.Kept.{known}
use Rattle.oz_scm_events.proofs.Telling.{halt_own, next_own, scm_all, scm_gives_it, ups_own}
use Rattle.oz_turn.specs.Told.{BeginsWith}

-- ---- events of a seat that gave none

pub to_all : {X : Type 0} (P : X → Type 0) (xs : List X) → AllByRecursion P xs → All P xs
to_all P [] all = All-from_all_within P [] (AllWithin-none P [] 0)
to_all P (x ∷ xs) all = All-cons P x xs all.0 (to_all P xs all.1)

pub others : (more : List Event) → known more ≡ [] → AllByRecursion (λ (event : Event). (event.seat == scm_seat) ≡ false) more
others [] none = tt
others (event ∷ more) none = by (event.seat == scm_seat) refl (others more)
  where
    by : (t : Bool) → (event.seat == scm_seat) ≡ t → (known more ≡ [] → AllByRecursion (λ (event : Event). (event.seat == scm_seat) ≡ false) more)
        → AllByRecursion (λ (event : Event). (event.seat == scm_seat) ≡ false) (event ∷ more)
    by true is rest = absurd (cc (ap (λ t. cond t (event ∷ known more) (known more)) (sym is) ∙ none))
    by false not rest = (not, rest (ap (λ t. cond t (event ∷ known more) (known more)) (sym not) ∙ none))

no_length : (xs : List Event) → length xs ≡ 0 → xs ≡ []
no_length [] none = refl
no_length (x ∷ xs) none = absurd (omega (arith, none))

pub none_more : (seen more : List Event) → known (seen ++ more) ≡ known seen → known more ≡ []
none_more seen more same =
    let parts = ap length (sym (filter-append (λ (event : Event). event.seat == scm_seat) seen more) ∙ same) in
    let sum = length-append (known seen) (known more) in
    no_length (known more) (omega (arith, parts, sum))

among_seen : (seen more : List Event) (event : Event) → known (seen ++ more) ≡ known seen → event.seat ≡ scm_seat → Contains (seen ++ more) event → Contains seen event
among_seen seen more event same is there =
    ⊎_elim
    (λ in_seen. in_seen)
    (λ in_more.
    let not = All-contains (λ (event : Event). (event.seat == scm_seat) ≡ false) more event (to_all (λ (event : Event). (event.seat == scm_seat) ≡ false) more (others more (none_more seen more same))) in_more in
    absurd (false≢true (sym not ∙ eq-eqb event.seat scm_seat is)))
    (Contains-append_cases seen more event there)

-- ---- what is used stays so

used_later : (opening : Opening) (seen more : List Event) (block : Block) → IsUsed opening seen block → IsUsed opening (seen ++ more) block
used_later opening seen more block used =
    ⊎_elim (λ reached. inl reached) (λ rest. inr (
    ⊎_elim (λ left. inl left) (λ rest. inr (
    ⊎_elim (λ logged. inl logged) (λ granted. inr (
    subst (λ (l : List Block). Contains l block) (sym (filter_map-append (λ (event : Event). granted_block event.kind) seen more))
    (Contains-append_left (all_told granted_block seen) (all_told granted_block more) block granted)))
    rest)) rest)) used

module _ (Coherent : Type 0) (opening : Opening) (bytes : OpeningBytes) (script : Script) (coherent : Coherent) where
  abbrev Follow : List Event → Event → Type 0
  Follow = Follows Coherent opening bytes script

  module _ (seen more : List Event) (all : AllFollow Follow [] (seen ++ more)) (same : known (seen ++ more) ≡ known seen) where
    grant_seen : (stripe : ℕ) (block : Block) (pipeline : ℕ) → IsOfGrant (seen ++ more) stripe block pipeline → IsOfGrant seen stripe block pipeline
    grant_seen stripe block pipeline of =
        let event : Event = record { seat = of.seat; kind = Grant stripe block.container pipeline of.first of.count } in
        let its = All-contains (λ (event : Event). scm_gives_it event) (seen ++ more) event (to_all (λ (event : Event). scm_gives_it event) (seen ++ more) (scm_all Coherent opening bytes script coherent (seen ++ more) all)) of.there in
        record {
          seat = of.seat;
          first = of.first;
          count = of.count;
          there = among_seen seen more event same (its refl) of.there;
          place = of.place;
          within = of.within;
          local = of.local;
        }

    spent_later : (stripe : ℕ) (exclude : Exclude) → IsSpent opening seen stripe exclude → IsSpent opening (seen ++ more) stripe exclude
    spent_later stripe exclude spent block pipeline of =
        ⊎_elim (λ used. inl (used_later opening seen more block used)) (λ excluded. inr excluded) (spent block pipeline (grant_seen stripe block pipeline of))

    needed_later : (stripe container pipeline : ℕ) → IsNeeded opening seen stripe container pipeline → IsNeeded opening (seen ++ more) stripe container pipeline
    needed_later stripe container pipeline needed = record {
      seat = needed.seat;
      id = needed.id;
      volume = needed.volume;
      bucket = needed.bucket;
      key = needed.key;
      session = needed.session;
      exclude = needed.exclude;
      asked = Contains-append_left seen more (record { seat = needed.seat; kind = Ask needed.id (AllocateBlock needed.volume needed.bucket needed.key needed.session needed.exclude) }) needed.asked;
      of_stripe = needed.of_stripe;
      container_allowed = needed.container_allowed;
      pipeline_allowed = needed.pipeline_allowed;
      none_left = spent_later stripe needed.exclude needed.none_left;
    }

  pub needs_still : (story seen : List Event) (stripe container pipeline : ℕ) → AllFollow Follow [] story → BeginsWith story seen → known story ≡ known seen
      → IsNeeded opening seen stripe container pipeline → IsNeeded opening story stripe container pipeline
  needs_still story seen stripe container pipeline all begins same needed =
      subst (λ (l : List Event). IsNeeded opening l stripe container pipeline) (sym begins.1)
      (needed_later seen begins.0 (subst (AllFollow Follow []) begins.1 all) (ap known (sym begins.1) ∙ same) stripe container pipeline needed)

  -- ---- refusals

  module _ (story : List Event) (all : AllFollow Follow [] story) where
    halts : halt_of Scm (known story) ≡ halt_of Scm story
    halts = sym (halt_own Coherent opening bytes script story all)

    are_up : ups opening (known story) ≡ ups opening story
    are_up = sym (ups_own Coherent opening bytes script coherent story all)

    any_free : (exclude : Exclude) → IsAnyFree opening story exclude → IsAnyFree opening (known story) exclude
    any_free exclude free = (free.0, subst (λ (up : List Bool). IsFree up exclude.pipelines free.0) (sym are_up) free.1)

    pub refused_there : (exclude : Exclude) (fault : GrantFault) → IsRefusal opening (known story) exclude fault → IsRefusal opening story exclude fault
    refused_there exclude (Stopped count) is = sym halts ∙ is
    refused_there exclude NoPipeline is = (sym halts ∙ is.0, λ any. is.1 (subst IsAnyUp (sym are_up) any))
    refused_there exclude Excluded is = (sym halts ∙ is.0, subst IsAnyUp are_up is.1, λ free. is.2 (any_free exclude free))
    refused_there exclude (IdsSpent next count) is = (
      sym halts ∙ is.0,
      (is.1.0, subst (λ (up : List Bool). IsFree up exclude.pipelines is.1.0) are_up is.1.1),
      is.2 ∙ sym (next_own Coherent opening bytes script coherent story all),
      is.3,
      is.4,
    )
    refused_there exclude OutOfMemory is = tt
