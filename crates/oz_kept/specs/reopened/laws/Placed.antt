-- Each block that a stop leaves lies in a container that was made, on its members.
use Rattle.std.proofs.Common.{
  ◌≡◌,
  ⊎_elim,
  ◌⊎◌,
  ℕ,
  suc,
  ◌==◌,
  Bool,
  true,
  false,
  ◌||◌,
  List,
  [],
  ◌∷◌,
  length,
  take,
  drop,
  Option,
  None,
  Some,
  IsSome,
  Contains,
  inl,
  inr,
  refl,
  sym,
  ◌∙◌,
  ap,
  subst,
  arith,
}
use mathlib.Core.Bool.{false≢true}
use Rattle.std.proofs.lemmas.Bool.{eqb-true, and_parts}
use Rattle.std.proofs.lemmas.List.{take-append-drop}
use Rattle.std.specs.FinMap.{get}
use Rattle.std.specs.Option.{option_map_or}
use Rattle.oz_fields.specs.declared.block.Block.{Block}
use Rattle.oz_nodes.specs.Pipelines.{members_of}
use Rattle.oz_core.specs.declared.event.Event.{Event}
use Rattle.oz_core.specs.declared.event.EventKind.{EventKind}
use Rattle.oz_core.specs.declared.event.EventKind.TheVariants.{Put, Copy}
use Rattle.oz_core.specs.declared.opening.Container.{Container}
use Rattle.oz_core.specs.declared.opening.Opening.{Opening}
use Rattle.oz_core.specs.Coherent.{BlocksAreCoherent}
use Rattle.oz_core.specs.Contents.{OpeningBytes, WasThere}
use Rattle.oz_core.specs.Law.{IsLegal, KindIsEnabled, puts_or_copies}
use Rattle.oz_core.specs.Nodes.{is_block, holds}
use Rattle.oz_core.specs.Scm.{Containers, containers, members}
use Rattle.oz_core.specs.Stories.{has_event}
use Rattle.oz_kept.specs.laws.Deleted.{found_at, enabled_at}
use Rattle.oz_kept.specs.laws.Contents.{one_block, holder_got}
use Rattle.oz_kept.specs.reopened.Left.{IsOfManager, IsLeftByScm}
use Rattle.oz_kept.specs.reopened.laws.Named.{WasGrantedIn, kept_grant, granted_on}
use Rattle.oz_kept.specs.reopened.laws.Rising.{stays_on, member_stays}

-- ---- containers that were made

inside : (o : Option Container) → IsSome o → (container : Container) × (o ≡ Some container)
inside None some = absurd cc
inside (Some container) some = (container, refl)

is_there : (o : Option Container) (container : Container) → o ≡ Some container → IsSome o
is_there o container e = subst IsSome (sym e) refl

made_still : (opening : Opening) (story : List Event) (number : ℕ) → IsSome (get opening.containers number) → IsSome (get (containers opening story) number)
made_still opening story number some =
    let old = inside (get opening.containers number) some in
    let on = stays_on opening story [] number old.0.pipeline (record { container = old.0; made = old.1; on = refl }) in
    is_there (get (containers opening story) number) on.container on.made

made_by_grant : (opening : Opening) (story : List Event) (legal : IsLegal opening story) (block : Block) → WasGrantedIn opening story legal block
    → IsSome (get (containers opening story) block.container)
made_by_grant opening story legal block was =
    let on = granted_on opening story legal block was in
    is_there (get (containers opening story) block.container) on.container on.made

pub of_manager_made : (opening : Opening) (bytes : OpeningBytes) (story : List Event) (most : ℕ) (block : Block) → IsLegal opening story
    → BlocksAreCoherent opening bytes → IsOfManager opening most story block
    → IsSome (get (containers opening story) block.container)
of_manager_made opening bytes story most block legal coherent (inl reached) = made_still opening story block.container (coherent.made block (inl reached))
of_manager_made opening bytes story most block legal coherent (inr (inl left)) = made_still opening story block.container (coherent.made block (inr (inl left)))
of_manager_made opening bytes story most block legal coherent (inr (inr granted)) =
    made_by_grant opening story legal block (kept_grant opening story legal most block granted)

pub held_made : (opening : Opening) (bytes : OpeningBytes) (story : List Event) (block : Block) (legal : IsLegal opening story)
    → BlocksAreCoherent opening bytes → WasThere opening block ⊎ WasGrantedIn opening story legal block
    → IsSome (get (containers opening story) block.container)
held_made opening bytes story block legal coherent (inl there) = made_still opening story block.container (coherent.made block (inr (inr there)))
held_made opening bytes story block legal coherent (inr was) = made_by_grant opening story legal block was

-- ---- members

pub record IsThere (is : EventKind → Bool) (story : List Event) : Type 0 where
  pub event : Event
  pub there : Contains story event
  pub so : is event.kind ≡ true

pub event_there : (is : EventKind → Bool) (story : List Event) → has_event is story ≡ true → IsThere is story
event_there is [] e = absurd (false≢true e)
event_there is (first ∷ story) e = by (is first.kind) refl (event_there is story)
  where
    by : (t : Bool) → is first.kind ≡ t → (has_event is story ≡ true → IsThere is story) → IsThere is (first ∷ story)
    by true so rest = record { event = first; there = (0, omega arith, refl); so = so }
    by false so rest =
        let later = rest (sym (ap (λ (t : Bool). t || has_event is story) so) ∙ e) in
        record { event = later.event; there = (suc later.there.0, omega (arith, later.there.1), later.there.2); so = later.so }

got_as_member : (opening : Opening) (before : List Event) (seat : ℕ) (kind : EventKind) (dn : ℕ) (block : Block) → KindIsEnabled opening before seat kind
    → puts_or_copies dn block kind ≡ true → Contains (members opening before block.container) dn
got_as_member opening before seat (Put other put id first count) dn block enabled test =
    let parts = and_parts (other == dn) (is_block block put) test in
    let same = sym (one_block block put parts.1) in
    let member = subst (λ (b : Block). Contains (members opening before b.container) other) same enabled.member in
    subst (λ (n : ℕ). Contains (members opening before block.container) n) (eqb-true other dn parts.0) member
got_as_member opening before seat (Copy source target copied) dn block enabled test =
    let parts = and_parts (target == dn) (is_block block copied) test in
    let same = sym (one_block block copied parts.1) in
    let member = subst (λ (b : Block). Contains (members opening before b.container) target) same enabled.to_member in
    subst (λ (n : ℕ). Contains (members opening before block.container) n) (eqb-true target dn parts.0) member
got_as_member opening before seat kind dn block enabled test = absurd (false≢true test)

pub held_by_member : (opening : Opening) (bytes : OpeningBytes) (story : List Event) (block : Block) (dn : ℕ) → IsLegal opening story
    → BlocksAreCoherent opening bytes → holds opening story dn block ≡ true
    → Contains (members opening story block.container) dn
held_by_member opening bytes story block dn legal coherent held = ⊎_elim
    (λ got.
    let it = event_there (puts_or_copies dn block) story got in
    let place = it.there.0 in
    let member = got_as_member opening (take it.there.0 story) it.event.seat it.event.kind dn block
    (enabled_at opening story legal it.there.0 it.event (found_at story it.event it.there)) it.so in
    subst (λ (l : List Event). Contains (members opening l block.container) dn) (take-append-drop it.there.0 story)
    (member_stays opening (take it.there.0 story) (drop it.there.0 story) block.container dn member))
    (λ was. member_stays opening [] story block.container dn (coherent.placed block dn was))
    (holder_got opening story block dn held)

-- the members stay those that they were
pub members_left : (opening : Opening) (story : List Event) (left : Opening) (number : ℕ) → IsLeftByScm opening story left
    → members left [] number ≡ members opening story number
members_left opening story left number scm =
    ap (λ (n : ℕ). option_map_or (λ (container : Container). members_of n container.pipeline) (get left.containers number) []) scm.count
    ∙ ap (λ (all : Containers). option_map_or (λ (container : Container). members_of (length opening.nodes) container.pipeline)
    (get all number) []) scm.containers
