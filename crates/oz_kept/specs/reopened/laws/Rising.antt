-- Ids rise, and a container that was made stays on its pipeline.
use Rattle.std.proofs.Common.{
  ◌≡◌,
  ℕ,
  suc,
  ◌+◌,
  ◌≤◌,
  Bool,
  true,
  false,
  List,
  [],
  ◌∷◌,
  ◌++◌,
  length,
  take,
  drop,
  Option,
  None,
  Some,
  Contains,
  cond,
  refl,
  sym,
  ◌∙◌,
  ap,
  subst,
  append-nil,
  arith,
}
use Rattle.std.proofs.lemmas.Bool.{eqb-true, eq-eqb}
use Rattle.std.proofs.lemmas.Cmp.{nat_cmp_total}
use Rattle.std.proofs.lemmas.List.{take-append-drop}
use Rattle.std.proofs.lemmas.List.Sums.{fold_push}
use Rattle.std.specs.Cmp.{unsigned_ties}
use Rattle.std.specs.FinMap.{get, insert, get-insert}
use Rattle.std.specs.List.{slice_get}
use Rattle.std.specs.Option.{option_map_or}
use Rattle.std.specs.Ordering.{nat_cmp, eq_by_cmp}
use Rattle.oz_nodes.specs.Pipelines.{members_of}
use Rattle.oz_core.specs.declared.event.Event.{Event}
use Rattle.oz_core.specs.declared.event.EventKind.{EventKind}
use Rattle.oz_core.specs.declared.event.EventKind.TheVariants.{Grant, Closed}
use Rattle.oz_core.specs.declared.opening.Container.{Container}
use Rattle.oz_core.specs.declared.opening.Opening.{Opening}
use Rattle.oz_core.specs.Law.{IsLegal, IsLegalFrom, KindIsEnabled, GrantIsEnabled, MayHold}
use Rattle.oz_core.specs.Scm.{next_id, id_after, Containers, containers, containers_after, granted_in, come_to, members}
use Rattle.oz_core.specs.Stories.{newer}
use Rattle.oz_kept.specs.laws.Places.{moved_over, legal_first, legal_rest}
use Rattle.oz_kept.specs.laws.Reached.{in_none}
use Rattle.oz_kept.specs.laws.Deleted.{legal_parts, enabled_at}
use Rattle.oz_kept.specs.laws.Contents.{front_grows}

-- ---- ids

next_next : (opening : Opening) (before : List Event) (event : Event)
    → next_id opening (before ++ event ∷ []) ≡ newer (id_after event.kind) (next_id opening before)
next_next opening before event = fold_push (λ told (event : Event). newer (id_after event.kind) told) opening.next_id before event

kind_rises : (opening : Opening) (before : List Event) (seat : ℕ) (kind : EventKind) → KindIsEnabled opening before seat kind
    → next_id opening before ≤ newer (id_after kind) (next_id opening before)
kind_rises opening before seat (Grant stripe container pipeline first count) enabled = omega (arith, enabled.next)
kind_rises opening before seat kind enabled = omega arith

pub ids_rise : (opening : Opening) (rest before : List Event) → IsLegalFrom opening before rest → next_id opening before ≤ next_id opening (before ++ rest)
ids_rise opening [] before legal = subst (λ (l : List Event). next_id opening before ≤ next_id opening l) (sym (append-nil before)) (omega arith)
ids_rise opening (event ∷ rest) before legal =
    let first = kind_rises opening before event.seat event.kind (legal_first opening before event rest legal) in
    let later = ids_rise opening rest (before ++ event ∷ []) (legal_rest opening before event rest legal) in
    subst (λ (l : List Event). next_id opening before ≤ next_id opening l) (moved_over before rest event)
    (omega (arith, first, later, next_next opening before event))

pub ids_within : (opening : Opening) (story : List Event) (place : ℕ) → IsLegal opening story → next_id opening (take place story) ≤ next_id opening story
ids_within opening story place legal =
    subst (λ (l : List Event). next_id opening (take place story) ≤ next_id opening l) (take-append-drop place story)
    (ids_rise opening (drop place story) (take place story) (legal_parts opening story place legal))

-- ---- containers

containers_next : (opening : Opening) (before : List Event) (event : Event)
    → containers opening (before ++ event ∷ []) ≡ containers_after (containers opening before) event.kind
containers_next opening before event = fold_push (λ before (event : Event). containers_after before event.kind) opening.containers before event

-- a container that was made, on this pipeline
pub record IsOn (all : Containers) (number pipeline : ℕ) : Type 0 where
  pub container : Container
  pub made : get all number ≡ Some container
  pub on : container.pipeline ≡ pipeline

inserted : (all : Containers) (at : ℕ) (new : Container) (number pipeline : ℕ) → ((old : Container) → get all at ≡ Some old → new.pipeline ≡ old.pipeline)
    → IsOn all number pipeline → IsOn (insert all at new) number pipeline
inserted all at new number pipeline same on = by (eq_by_cmp nat_cmp number at) refl
  where
    there : get (insert all at new) number ≡ cond (eq_by_cmp nat_cmp number at) (Some new) (get all number)
    there = get-insert nat_cmp_total all at new number

    by : (t : Bool) → eq_by_cmp nat_cmp number at ≡ t → IsOn (insert all at new) number pipeline
    by true e =
        let is : number ≡ at = eqb-true number at (unsigned_ties number at ∙ e) in
        let old : get all at ≡ Some on.container = ap (λ n. get all n) (sym is) ∙ on.made in
        record { container = new; made = there ∙ ap (λ (t : Bool). cond t (Some new) (get all number)) e; on = same on.container old ∙ on.on }
    by false e = record { container = on.container; made = there ∙ ap (λ (t : Bool). cond t (Some new) (get all number)) e ∙ on.made; on = on.on }

placed_there : (all : Containers) (at : ℕ) (new : Container) → get (insert all at new) at ≡ Some new
placed_there all at new =
    get-insert nat_cmp_total all at new at ∙ ap (λ (t : Bool). cond t (Some new) (get all at)) (sym (unsigned_ties at at) ∙ eq-eqb at at refl)

some_container : (a b : Container) → Some a ≡ Some b → a ≡ b
some_container a b e = cc

kind_keeps : (all : Containers) (kind : EventKind) (number pipeline : ℕ) → IsOn all number pipeline → IsOn (containers_after all kind) number pipeline
kind_keeps all (Grant stripe at to first count) number pipeline on =
    inserted all at (granted_in (get all at) to count) number pipeline (λ old is. ap (λ (o : Option Container). (granted_in o to count).pipeline) is) on
kind_keeps all (Closed at state) number pipeline on = by (get all at) refl
  where
    by : (o : Option Container) → get all at ≡ o → IsOn (come_to all at state o) number pipeline
    by None e = on
    by (Some container) e =
        let new : Container = record { pipeline = container.pipeline; state = state; granted = container.granted } in
        inserted all at new number pipeline (λ old is. ap (λ (c : Container). c.pipeline) (some_container container old (sym e ∙ is))) on
kind_keeps all kind number pipeline on = on

pub stays_on : (opening : Opening) (rest before : List Event) (number pipeline : ℕ) → IsOn (containers opening before) number pipeline
    → IsOn (containers opening (before ++ rest)) number pipeline
stays_on opening [] before number pipeline on = subst (λ (l : List Event). IsOn (containers opening l) number pipeline) (sym (append-nil before)) on
stays_on opening (event ∷ rest) before number pipeline on =
    let next = subst (λ (all : Containers). IsOn all number pipeline) (sym (containers_next opening before event))
    (kind_keeps (containers opening before) event.kind number pipeline on) in
    subst (λ (l : List Event). IsOn (containers opening l) number pipeline) (moved_over before rest event)
    (stays_on opening rest (before ++ event ∷ []) number pipeline next)

-- ---- members

pub members_on : (opening : Opening) (story : List Event) (number pipeline : ℕ) → IsOn (containers opening story) number pipeline
    → members opening story number ≡ members_of (length opening.nodes) pipeline
members_on opening story number pipeline on =
    ap (λ (o : Option Container). option_map_or (λ (container : Container). members_of (length opening.nodes) container.pipeline) o []) on.made
    ∙ ap (members_of (length opening.nodes)) on.on

pub member_on : (opening : Opening) (story : List Event) (number dn : ℕ) → Contains (members opening story number) dn → (pipeline : ℕ)
    × IsOn (containers opening story) number pipeline
member_on opening story number dn among = by (get (containers opening story) number) refl
  where
    by : (o : Option Container) → get (containers opening story) number ≡ o → (pipeline : ℕ) × IsOn (containers opening story) number pipeline
    by None e = absurd (in_none dn (subst (λ (o : Option Container). Contains
        (option_map_or (λ (container : Container). members_of (length opening.nodes) container.pipeline) o []) dn) e among))
    by (Some container) e = (container.pipeline, record { container = container; made = e; on = refl })

-- a member stays one
pub member_stays : (opening : Opening) (before rest : List Event) (number dn : ℕ) → Contains (members opening before number) dn
    → Contains (members opening (before ++ rest) number) dn
member_stays opening before rest number dn among =
    let on = member_on opening before number dn among in
    let still = stays_on opening rest before number on.0 on.1 in
    subst (λ (l : List ℕ). Contains l dn) (members_on opening before number on.0 on.1 ∙ sym (members_on opening (before ++ rest) number on.0 still)) among

-- ---- grants

module _ (opening : Opening) (story : List Event) (legal : IsLegal opening story) (place seat stripe container pipeline first count : ℕ)
    (is : slice_get story place ≡ Some (record { seat = seat; kind = Grant stripe container pipeline first count })) where
  grown : take (suc place) story ≡ take place story ++ record { seat = seat; kind = Grant stripe container pipeline first count } ∷ []
  grown = front_grows story place (record { seat = seat; kind = Grant stripe container pipeline first count }) is

  -- what was granted is below the next id
  pub grant_below : first + count ≤ next_id opening story
  grant_below =
      let here : next_id opening (take (suc place) story) ≡ first + count = ap (next_id opening) grown
      ∙ next_next opening (take place story) (record { seat = seat; kind = Grant stripe container pipeline first count }) in
      omega (arith, here, ids_within opening story (suc place) legal)

  -- and its container is made, on the pipeline
  pub grant_on : IsOn (containers opening story) container pipeline
  grant_on =
      let enabled : GrantIsEnabled opening (take place story) seat stripe container pipeline first count =
      enabled_at opening story legal place (record { seat = seat; kind = Grant stripe container pipeline first count }) is in
      let next = subst (λ (all : Containers). IsOn all container pipeline)
      (sym (containers_next opening (take place story) (record { seat = seat; kind = Grant stripe container pipeline first count })))
      (made (get (containers opening (take place story)) container) enabled.holds refl) in
      subst (λ (l : List Event). IsOn (containers opening l) container pipeline) (take-append-drop (suc place) story)
      (stays_on opening (drop (suc place) story) (take (suc place) story) container pipeline
      (subst (λ (l : List Event). IsOn (containers opening l) container pipeline) (sym grown) next))
    where
      made : (o : Option Container) → MayHold opening (take place story) container pipeline o → get (containers opening (take place story)) container ≡ o
          → IsOn (insert (containers opening (take place story)) container
          (granted_in (get (containers opening (take place story)) container) pipeline count)) container pipeline
      made None holds e = record {
        container = granted_in (get (containers opening (take place story)) container) pipeline count;
        made = placed_there (containers opening (take place story)) container
            (granted_in (get (containers opening (take place story)) container) pipeline count);
        on = ap (λ (o : Option Container). (granted_in o pipeline count).pipeline) e;
      }
      made (Some old) holds e = record {
        container = granted_in (get (containers opening (take place story)) container) pipeline count;
        made = placed_there (containers opening (take place story)) container
            (granted_in (get (containers opening (take place story)) container) pipeline count);
        on = ap (λ (o : Option Container). (granted_in o pipeline count).pipeline) e ∙ holds.1;
      }
