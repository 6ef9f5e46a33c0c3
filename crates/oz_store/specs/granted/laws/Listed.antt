-- The blocks of a stripe's Grants as a list, of items of any form.
use Rattle.std.proofs.Common.{
  ◌≡◌,
  ⊎_elim,
  ℕ,
  suc,
  ◌+◌,
  ◌<◌,
  Bool,
  true,
  false,
  ◌==◌,
  if◌then◌else◌,
  cond,
  List,
  [],
  ◌∷◌,
  map,
  Contains,
  refl,
  sym,
  ◌∙◌,
  ap,
  subst,
  arith,
}
use Rattle.std.proofs.lemmas.Bool.{eqb-true, eq-eqb}
use Rattle.std.proofs.lemmas.List.Elements.{Contains-append_left, Contains-append_right, Contains-append_cases}
use Rattle.std.proofs.lemmas.List.FromFn.{length-map-range_with_len, get_or-map-range_with_len}
use Rattle.std.specs.List.{flat_map, range_with_len}
use Rattle.oz_fields.specs.declared.block.Block.{Block}
use Rattle.oz_core.specs.declared.event.Event.{Event}
use Rattle.oz_core.specs.declared.event.EventKind.{EventKind}
use Rattle.oz_core.specs.declared.event.EventKind.TheVariants.{Grant}
use Rattle.oz_core.specs.Scm.{IsOfGrant}
use Rattle.oz_kept.specs.laws.Reached.{in_none}
use Rattle.oz_kept.specs.laws.Deleted.{first_or_later}

-- an item for each block of a Grant, in order
abbrev pub items_of_grant : {X : Type 0} → (Block → ℕ → X) → ℕ → ℕ → ℕ → ℕ → List X
items_of_grant item container pipeline first count =
    map (λ local. item (record { container = container; local = local }) pipeline) (range_with_len first count)

-- and of all Grants to a stripe, in the order of the Grants
abbrev pub items_in : {X : Type 0} → (Block → ℕ → X) → ℕ → EventKind → List X
items_in item stripe (Grant other container pipeline first count) =
    if other == stripe then items_of_grant item container pipeline first count else []
items_in item stripe _ = []

abbrev pub items_granted : {X : Type 0} → (Block → ℕ → X) → ℕ → List Event → List X
items_granted item stripe story = flat_map (λ (event : Event). items_in item stripe event.kind) story

-- the item is that of a block of a Grant
pub record IsItemOf {X : Type 0} (item : Block → ℕ → X) (story : List Event) (stripe : ℕ) (x : X) : Type 0 where
  pub block : Block
  pub pipeline : ℕ
  pub granted : IsOfGrant story stripe block pipeline
  pub is : item block pipeline ≡ x

-- a Grant stands behind one event more
later_grant : (stripe : ℕ) (event : Event) (story : List Event) (block : Block) (pipeline : ℕ) → IsOfGrant story stripe block pipeline
    → IsOfGrant (event ∷ story) stripe block pipeline
later_grant stripe event story block pipeline of = record {
  seat = of.seat;
  first = of.first;
  count = of.count;
  there = (suc of.there.0, omega (arith, of.there.1), of.there.2);
  place = of.place;
  within = of.within;
  local = of.local;
}

module _ {X : Type 0} (item : Block → ℕ → X) where
  made : ℕ → ℕ → ℕ → X
  made container pipeline local = item (record { container = container; local = local }) pipeline

  of_grant : (story : List Event) (seat stripe container pipeline first count : ℕ)
      → Contains story (record { seat = seat; kind = Grant stripe container pipeline first count })
      → (x : X) → Contains (items_of_grant item container pipeline first count) x → IsItemOf item story stripe x
  unfolding made
  of_grant story seat stripe container pipeline first count there x among =
      let long = length-map-range_with_len {X = X} (made container pipeline) first count in
      let within : among.0 < count = omega (arith, among.1, long) in
      record {
        block = record { container = container; local = first + among.0 };
        pipeline = pipeline;
        granted = record { seat = seat; first = first; count = count; there = there; place = among.0; within = within; local = refl };
        is = sym (get_or-map-range_with_len {X = X} (made container pipeline) first count among.0 (first + among.0) x within refl) ∙ among.2;
      }

  in_the_first : (stripe : ℕ) (event : Event) (story : List Event) (x : X) → Contains (items_in item stripe event.kind) x
      → IsItemOf item (event ∷ story) stripe x
  in_the_first stripe event story x there = by event.kind refl there
    where
      its : (other container pipeline first count : ℕ) (t : Bool) → (other == stripe) ≡ t → event.kind ≡ Grant other container pipeline first count
          → Contains (cond t (items_of_grant item container pipeline first count) []) x → IsItemOf item (event ∷ story) stripe x
      its other container pipeline first count true same is among =
          of_grant (event ∷ story) event.seat stripe container pipeline first count (
            0,
            omega arith,
            ap (λ (kind : EventKind). record { seat = event.seat; kind = kind })
                (is ∙ ap (λ (n : ℕ). Grant n container pipeline first count) (eqb-true other stripe same)),
          ) x among
      its other container pipeline first count false same is among = absurd (in_none x among)

      by : (kind : EventKind) → event.kind ≡ kind → Contains (items_in item stripe kind) x → IsItemOf item (event ∷ story) stripe x
      by (Grant other container pipeline first count) is among = its other container pipeline first count (other == stripe) refl is among
      by _ is among = absurd (in_none x among)

  -- what is listed is of a Grant
  pub listed_granted : (stripe : ℕ) (story : List Event) (x : X) → Contains (items_granted item stripe story) x → IsItemOf item story stripe x
  listed_granted stripe [] x there = absurd (in_none x there)
  listed_granted stripe (event ∷ story) x there = ⊎_elim
      (λ now. in_the_first stripe event story x now)
      (λ later.
      let its = listed_granted stripe story x later in
      record { block = its.block; pipeline = its.pipeline; granted = later_grant stripe event story its.block its.pipeline its.granted; is = its.is })
      (Contains-append_cases (items_in item stripe event.kind) (items_granted item stripe story) x there)

  at_place : (container pipeline first count place local : ℕ) → place < count → local ≡ first + place
      → Contains (items_of_grant item container pipeline first count) (item (record { container = container; local = local }) pipeline)
  unfolding made
  at_place container pipeline first count place local within is =
      let long = length-map-range_with_len {X = X} (made container pipeline) first count in (
        place,
        omega (arith, within, long),
        get_or-map-range_with_len {X = X} (made container pipeline) first count place local (made container pipeline local) within (sym is),
      )

  granted_at : (stripe : ℕ) (story : List Event) (block : Block) (pipeline seat first count place : ℕ)
      → Contains story (record { seat = seat; kind = Grant stripe block.container pipeline first count })
      → place < count → block.local ≡ first + place → Contains (items_granted item stripe story) (item block pipeline)
  granted_at stripe [] block pipeline seat first count place there within local =
      absurd (in_none (record { seat = seat; kind = Grant stripe block.container pipeline first count }) there)
  granted_at stripe (event ∷ story) block pipeline seat first count place there within local = ⊎_elim
      (λ same. Contains-append_left (items_in item stripe event.kind) (items_granted item stripe story) (item block pipeline)
      (subst (λ (e : Event). Contains (items_in item stripe e.kind) (item block pipeline)) (sym same)
      (subst (λ (t : Bool). Contains (cond t (items_of_grant item block.container pipeline first count) []) (item block pipeline))
      (sym (eq-eqb stripe stripe refl))
      (at_place block.container pipeline first count place block.local within local))))
      (λ later. Contains-append_right (items_in item stripe event.kind) (items_granted item stripe story) (item block pipeline)
      (granted_at stripe story block pipeline seat first count place later within local))
      (first_or_later event (record { seat = seat; kind = Grant stripe block.container pipeline first count }) story there)

  -- and what is of a Grant is listed
  pub granted_listed : (stripe : ℕ) (story : List Event) (block : Block) (pipeline : ℕ) → IsOfGrant story stripe block pipeline
      → Contains (items_granted item stripe story) (item block pipeline)
  granted_listed stripe story block pipeline of = granted_at stripe story block pipeline of.seat of.first of.count of.place of.there of.within of.local
