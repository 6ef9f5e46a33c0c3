-- The Grants of a legal story: their ids follow one another.
use Rattle.std.proofs.Common.{◌≡◌, ⊎_elim, ℕ, zero, suc, ◌+◌, ◌<◌, ◌≤◌, List, [], ◌∷◌, ◌++◌, take, drop, Some, sym, ◌∙◌, ap, subst, arith}
use Rattle.std.proofs.lemmas.Bool.{cases_lt}
use Rattle.std.proofs.lemmas.List.{take-append-drop}
use Rattle.std.proofs.lemmas.List.Elements.{Contains-append_left}
use Rattle.std.specs.List.{slice_get}
use Rattle.oz_fields.specs.declared.block.Block.{Block}
use Rattle.oz_fields.specs.declared.block.TheConstants.{GREATEST_BLOCK_NUMBER}
use Rattle.oz_core.specs.declared.event.Event.{Event}
use Rattle.oz_core.specs.declared.event.EventKind.{EventKind}
use Rattle.oz_core.specs.declared.event.EventKind.TheVariants.{Grant}
use Rattle.oz_core.specs.declared.opening.Opening.{Opening}
use Rattle.oz_core.specs.Law.{IsLegal, IsLegalFrom, GrantIsEnabled}
use Rattle.oz_core.specs.Scm.{IsOfGrant, next_id}
use Rattle.oz_kept.specs.laws.Places.{legal_behind, legal_first}
use Rattle.oz_kept.specs.laws.Deleted.{enabled_at, found_at, front_legal, legal_to, split_at}
use Rattle.oz_kept.specs.reopened.laws.Rising.{grant_below as ends_below, ids_rise}
use Rattle.oz_store.specs.granted.Granted.{IsGrantAt}

-- ---- places in lists

-- an element before a place is among those up to it
kept_at : {A : Type 0} (l : List A) (n k : ℕ) (x : A) → k < n → slice_get l k ≡ Some x → slice_get (take n l) k ≡ Some x
kept_at [] n k x lt e = absurd cc
kept_at (y ∷ l) zero k x lt e = absurd (omega (arith, lt))
kept_at (y ∷ l) (suc n) zero x lt e = e
kept_at (y ∷ l) (suc n) (suc k) x lt e = kept_at l n k x (omega (arith, lt)) e

-- ---- where the Grant of a block stands

abbrev event_of : (seat stripe container pipeline first count : ℕ) → Event
event_of seat stripe container pipeline first count = record { seat = seat; kind = Grant stripe container pipeline first count }

found_grant : (story : List Event) (stripe : ℕ) (block : Block) (pipeline : ℕ) (of : IsOfGrant story stripe block pipeline)
    → slice_get story of.there.0 ≡ Some (event_of of.seat stripe block.container pipeline of.first of.count)
found_grant story stripe block pipeline of = found_at story (event_of of.seat stripe block.container pipeline of.first of.count) of.there

pub grant_of : (story : List Event) (stripe : ℕ) (block : Block) (pipeline : ℕ) (of : IsOfGrant story stripe block pipeline)
    → IsGrantAt story of.there.0 stripe block.container pipeline of.first of.count
grant_of story stripe block pipeline of = record { seat = of.seat; there = found_grant story stripe block pipeline of }

-- it stands in a longer story too
pub of_longer : (before more : List Event) (stripe : ℕ) (block : Block) (pipeline : ℕ) → IsOfGrant before stripe block pipeline
    → IsOfGrant (before ++ more) stripe block pipeline
of_longer before more stripe block pipeline of = record {
  seat = of.seat;
  first = of.first;
  count = of.count;
  there = Contains-append_left before more (event_of of.seat stripe block.container pipeline of.first of.count) of.there;
  place = of.place;
  within = of.within;
  local = of.local;
}

pub of_taken : (story : List Event) (n stripe : ℕ) (block : Block) (pipeline : ℕ) → IsOfGrant (take n story) stripe block pipeline
    → IsOfGrant story stripe block pipeline
of_taken story n stripe block pipeline of =
    subst (λ (l : List Event). IsOfGrant l stripe block pipeline) (take-append-drop n story) (of_longer (take n story) (drop n story) stripe block pipeline of)

-- ---- its ids

module _ (opening : Opening) (story : List Event) (legal : IsLegal opening story) (place stripe container pipeline first count : ℕ)
    (grant : IsGrantAt story place stripe container pipeline first count) where
  pub enabled_there : GrantIsEnabled opening (take place story) grant.seat stripe container pipeline first count
  enabled_there = enabled_at opening story legal place (event_of grant.seat stripe container pipeline first count) grant.there

  pub grant_from : opening.next_id ≤ first
  grant_from =
      let rises = ids_rise opening (take place story) [] (front_legal opening story legal place) in
      omega (arith, enabled_there.next, rises)

  pub grant_within : first + count ≤ GREATEST_BLOCK_NUMBER
  grant_within = enabled_there.within

  pub grant_below : first + count ≤ next_id opening story
  grant_below = ends_below opening story legal place grant.seat stripe container pipeline first count grant.there

-- a later Grant begins no lower
pub grants_in_order : (opening : Opening) (story : List Event) (legal : IsLegal opening story)
    (place stripe container pipeline first count later other with beside from many : ℕ) → place < later
    → IsGrantAt story place stripe container pipeline first count → IsGrantAt story later other with beside from many → first + count ≤ from
grants_in_order opening story legal place stripe container pipeline first count later other with beside from many lt grant behind =
    let front = front_legal opening story legal later in
    let there = kept_at story later place (event_of grant.seat stripe container pipeline first count) lt grant.there in
    let ends = ends_below opening (take later story) front place grant.seat stripe container pipeline first count there in
    let begins = enabled_there opening story legal later other with beside from many behind in
    omega (arith, ends, begins.next)

-- ---- and those of its blocks

module _ (opening : Opening) (story : List Event) (legal : IsLegal opening story) (stripe : ℕ) (block : Block) (pipeline : ℕ)
    (of : IsOfGrant story stripe block pipeline) where
  pub local_from : opening.next_id ≤ block.local
  local_from =
      let from = grant_from opening story legal of.there.0 stripe block.container pipeline of.first of.count (grant_of story stripe block pipeline of) in
      omega (arith, from, of.local)

  pub local_below : block.local < next_id opening story
  local_below =
      let below = grant_below opening story legal of.there.0 stripe block.container pipeline of.first of.count (grant_of story stripe block pipeline of) in
      omega (arith, below, of.local, of.within)

  pub local_within : block.local < GREATEST_BLOCK_NUMBER
  local_within =
      let within = grant_within opening story legal of.there.0 stripe block.container pipeline of.first of.count (grant_of story stripe block pipeline of) in
      omega (arith, within, of.local, of.within)

pub later_above : (opening : Opening) (front more : List Event) (stripe pipeline other beside : ℕ) (block twin : Block) → IsLegal opening (front ++ more)
    → IsOfGrant front stripe block pipeline → IsOfGrant more other twin beside → block.local < twin.local
later_above opening front more stripe pipeline other beside block twin legal of behind =
    let event = event_of behind.seat other twin.container beside behind.first behind.count in
    let before = take behind.there.0 more in
    let rest = drop (suc behind.there.0) more in
    let legal_more = legal_behind opening [] front more legal in
    let parts = subst (IsLegalFrom opening front) (split_at more behind.there.0 event (found_at more event behind.there)) legal_more in
    let enabled : GrantIsEnabled opening (front ++ before) behind.seat other twin.container beside behind.first behind.count =
    legal_first opening (front ++ before) event rest (legal_behind opening front before (event ∷ rest) parts) in
    let rises = ids_rise opening before front (legal_to opening front before (event ∷ rest) parts) in
    let below = local_below opening front (legal_to opening [] front more legal) stripe block pipeline of in
    omega (arith, below, rises, enabled.next, behind.local)

-- ---- one id, one block

same_block : (block twin : Block) → block.container ≡ twin.container → block.local ≡ twin.local → block ≡ twin
same_block block twin container local =
    ap (λ (n : ℕ). record { container = n; local = block.local }) container ∙ ap (λ (n : ℕ). record { container = twin.container; local = n }) local

-- what is read off a Grant, 0 of other events
stripe_in : EventKind → ℕ
stripe_in (Grant stripe container pipeline first count) = stripe
stripe_in kind = 0

container_in : EventKind → ℕ
container_in (Grant stripe container pipeline first count) = container
container_in kind = 0

pipeline_in : EventKind → ℕ
pipeline_in (Grant stripe container pipeline first count) = pipeline
pipeline_in kind = 0

some_event : (a b : Event) → Some a ≡ Some b → a ≡ b
some_event a b e = cc

module _ (opening : Opening) (story : List Event) (legal : IsLegal opening story) (stripe pipeline other beside : ℕ) (block twin : Block)
    (of : IsOfGrant story stripe block pipeline) (also : IsOfGrant story other twin beside) (same : block.local ≡ twin.local) where
  one_place : of.there.0 ≡ also.there.0
  one_place = ⊎_elim
      (λ lt.
      let order = grants_in_order opening story legal of.there.0 stripe block.container pipeline of.first of.count also.there.0 other twin.container beside
      also.first also.count lt (grant_of story stripe block pipeline of) (grant_of story other twin beside also) in
      absurd (omega (arith, order, of.local, of.within, also.local, same)))
      (λ le. ⊎_elim
      (λ lt.
      let order = grants_in_order opening story legal also.there.0 other twin.container beside also.first also.count of.there.0 stripe block.container
      pipeline of.first of.count lt (grant_of story other twin beside also) (grant_of story stripe block pipeline of) in
      absurd (omega (arith, order, also.local, also.within, of.local, same)))
      (λ more. omega (arith, le, more))
      (cases_lt also.there.0 of.there.0))
      (cases_lt of.there.0 also.there.0)

  one_event : event_of of.seat stripe block.container pipeline of.first of.count ≡ event_of also.seat other twin.container beside also.first also.count
  one_event =
      some_event (event_of of.seat stripe block.container pipeline of.first of.count) (event_of also.seat other twin.container beside also.first also.count)
      (sym (found_grant story stripe block pipeline of) ∙ ap (slice_get story) one_place ∙ found_grant story other twin beside also)

  pub one_block : block ≡ twin
  unfolding container_in
  one_block = same_block block twin (ap (λ (event : Event). container_in event.kind) one_event) same

  pub one_stripe : stripe ≡ other
  unfolding stripe_in
  one_stripe = ap (λ (event : Event). stripe_in event.kind) one_event

  pub one_pipeline : pipeline ≡ beside
  unfolding pipeline_in
  one_pipeline = ap (λ (event : Event). pipeline_in event.kind) one_event
