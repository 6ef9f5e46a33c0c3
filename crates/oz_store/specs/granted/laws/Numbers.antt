-- The numbers of containers stay below the next id.
use Rattle.std.proofs.Common.{
  ◌≡◌,
  ℕ,
  ◌+◌,
  ◌<◌,
  ◌≤◌,
  Bool,
  true,
  false,
  ◌||◌,
  cond,
  List,
  [],
  ◌∷◌,
  ◌++◌,
  take,
  Option,
  None,
  Some,
  refl,
  sym,
  ◌∙◌,
  ap,
  subst,
  append-nil,
  arith,
}
use Rattle.std.proofs.lemmas.Bool.{eqb-true, eq-eqb}
use Rattle.std.proofs.lemmas.List.Sums.{fold_push}
use Rattle.std.specs.Prelude.{IsSome, fold, max}
use Rattle.std.specs.Cmp.{nat_cmp_total, unsigned_ties}
use Rattle.std.specs.FinMap.{get, insert, keys, get-insert, contains_key-keys}
use Rattle.std.specs.List.{list_any}
use Rattle.std.specs.Ordering.{eq_by_cmp, nat_cmp}
use Rattle.oz_fields.specs.declared.block.Block.{Block}
use Rattle.oz_core.specs.declared.event.Event.{Event}
use Rattle.oz_core.specs.declared.event.EventKind.{EventKind}
use Rattle.oz_core.specs.declared.event.EventKind.TheVariants.{Grant, Closed}
use Rattle.oz_core.specs.declared.opening.Container.{Container}
use Rattle.oz_core.specs.declared.opening.Opening.{Opening}
use Rattle.oz_core.specs.Law.{IsLegal, IsLegalFrom, KindIsEnabled, GrantIsEnabled, MayHold}
use Rattle.oz_core.specs.Scm.{Containers, IsOfGrant, containers, containers_after, come_to, granted_in, id_after, next_id}
use Rattle.oz_core.specs.Stories.{newer}
use Rattle.oz_kept.specs.laws.Places.{legal_first, legal_rest, moved_over}
use Rattle.oz_kept.specs.laws.Deleted.{front_legal}
use Rattle.oz_rows.specs.Rows.{IsBlock}
use Rattle.oz_store.specs.granted.Granted.{AreNumbered, IsGrantAt}
use Rattle.oz_store.specs.granted.laws.Grants.{enabled_there, grant_of, grant_within, local_from, local_within}

-- ---- the greatest number

or_true : (t : Bool) → (t || true) ≡ true
or_true true = refl
or_true false = refl

-- the greatest of a list that begins with one below a limit
greatest_below : (n a : ℕ) (xs : List ℕ) → a < n → ((q : ℕ) → list_any (eq_by_cmp nat_cmp q) xs ≡ true → q < n) → fold max a xs < n
greatest_below n a [] lt all = lt
greatest_below n a (x ∷ xs) lt all =
    let itself : eq_by_cmp nat_cmp x x ≡ true = sym (unsigned_ties x x) ∙ eq-eqb x x refl in
    let its = all x (ap (λ (t : Bool). t || list_any (eq_by_cmp nat_cmp x) xs) itself) in
    greatest_below n (max a x) xs (omega (arith, lt, its))
    (λ q later. all q (ap (λ (t : Bool). eq_by_cmp nat_cmp q x || t) later ∙ or_true (eq_by_cmp nat_cmp q x)))

greatest_numbered : (all : Containers) (next : ℕ) → AreNumbered all next → fold max 0 (keys all) ≤ next
greatest_numbered all next numbered =
    let below = greatest_below (next + 1) 0 (keys all) (omega arith) (λ q key. let its = numbered q (contains_key-keys all q ∙ key) in omega (arith, its.1)) in
    omega (arith, below)

-- ---- one event more

is_there : (o : Option Container) (container : Container) → o ≡ Some container → IsSome o
is_there o container e = subst IsSome (sym e) refl

-- the container of a Grant is below the end of the Grant
holder_numbered : (opening : Opening) (before : List Event) (seat stripe container pipeline first count : ℕ)
    → GrantIsEnabled opening before seat stripe container pipeline first count
    → AreNumbered (containers opening before) (next_id opening before) → (1 ≤ container) × (container < first + count)
holder_numbered opening before seat stripe container pipeline first count enabled numbered = by (get (containers opening before) container) refl enabled.holds
  where
    by : (o : Option Container) → get (containers opening before) container ≡ o → MayHold opening before container pipeline o → (1 ≤ container)
        × (container < first + count)
    by None e next =
        let greatest = greatest_numbered (containers opening before) (next_id opening before) numbered in
        (omega (arith, next), omega (arith, next, greatest, enabled.next, enabled.whole))
    by (Some old) e holds =
        let its = numbered container (is_there (get (containers opening before) container) old e) in
        (its.0, omega (arith, its.1, enabled.next))

-- one container more, or one that changes
numbered_insert : (all : Containers) (at : ℕ) (new : Container) (next later : ℕ) → next ≤ later → (1 ≤ at) × (at < later) → AreNumbered all next
    → AreNumbered (insert all at new) later
numbered_insert all at new next later le its numbered number there = by (eq_by_cmp nat_cmp number at) refl
  where
    got : get (insert all at new) number ≡ cond (eq_by_cmp nat_cmp number at) (Some new) (get all number)
    got = get-insert nat_cmp_total all at new number

    by : (t : Bool) → eq_by_cmp nat_cmp number at ≡ t → (1 ≤ number) × (number < later)
    by true e = subst (λ (n : ℕ). (1 ≤ n) × (n < later)) (sym (eqb-true number at (unsigned_ties number at ∙ e))) its
    by false e =
        let old = numbered number (subst IsSome (got ∙ ap (λ (t : Bool). cond t (Some new) (get all number)) e) there) in
        (old.0, omega (arith, old.1, le))

kind_numbered : (opening : Opening) (before : List Event) (seat : ℕ) (kind : EventKind) → KindIsEnabled opening before seat kind
    → AreNumbered (containers opening before) (next_id opening before)
    → AreNumbered (containers_after (containers opening before) kind) (newer (id_after kind) (next_id opening before))
kind_numbered opening before seat (Grant stripe container pipeline first count) enabled numbered =
    numbered_insert (containers opening before) container (granted_in (get (containers opening before) container) pipeline count) (next_id opening before)
    (first + count)
    (omega (arith, enabled.next)) (holder_numbered opening before seat stripe container pipeline first count enabled numbered) numbered
kind_numbered opening before seat (Closed at state) enabled numbered = by (get (containers opening before) at) refl
  where
    by : (o : Option Container) → get (containers opening before) at ≡ o → AreNumbered (come_to (containers opening before) at state o) (next_id opening before)
    by None e = numbered
    by (Some container) e =
        numbered_insert (containers opening before) at (record { pipeline = container.pipeline; state = state; granted = container.granted })
        (next_id opening before) (next_id opening before)
        (omega arith) (numbered at (is_there (get (containers opening before) at) container e)) numbered
kind_numbered opening before seat kind enabled numbered = numbered

-- ---- a whole story

numbered_from : (opening : Opening) (rest before : List Event) → IsLegalFrom opening before rest
    → AreNumbered (containers opening before) (next_id opening before)
    → AreNumbered (containers opening (before ++ rest)) (next_id opening (before ++ rest))
numbered_from opening [] before legal numbered =
    subst (λ (l : List Event). AreNumbered (containers opening l) (next_id opening l)) (sym (append-nil before)) numbered
numbered_from opening (event ∷ rest) before legal numbered =
    let made = fold_push (λ before (event : Event). containers_after before event.kind) opening.containers before event in
    let next = fold_push (λ told (event : Event). newer (id_after event.kind) told) opening.next_id before event in
    let here = kind_numbered opening before event.seat event.kind (legal_first opening before event rest legal) numbered in
    subst (λ (l : List Event). AreNumbered (containers opening l) (next_id opening l)) (moved_over before rest event)
    (numbered_from opening rest (before ++ event ∷ []) (legal_rest opening before event rest legal)
    (subst (λ (n : ℕ). AreNumbered (containers opening (before ++ event ∷ [])) n) (sym next)
    (subst (λ (all : Containers). AreNumbered all (newer (id_after event.kind) (next_id opening before))) (sym made) here)))

module _ (opening : Opening) (numbered : AreNumbered opening.containers opening.next_id) where
  pub stay_numbered : (story : List Event) → IsLegal opening story → AreNumbered (containers opening story) (next_id opening story)
  stay_numbered story legal = numbered_from opening story [] legal numbered

  pub grant_numbered : (story : List Event) → IsLegal opening story → (place stripe container pipeline first count : ℕ)
      → IsGrantAt story place stripe container pipeline first count
      → (1 ≤ container) × (container < first + count)
  grant_numbered story legal place stripe container pipeline first count grant =
      holder_numbered opening (take place story) grant.seat stripe container pipeline first count
      (enabled_there opening story legal place stripe container pipeline first count grant)
      (stay_numbered (take place story) (front_legal opening story legal place))

  pub block_fits : (story : List Event) → IsLegal opening story → 1 ≤ opening.next_id → (stripe : ℕ) (block : Block) (pipeline : ℕ)
      → IsOfGrant story stripe block pipeline → IsBlock block
  block_fits story legal some stripe block pipeline of =
      let grant = grant_of story stripe block pipeline of in
      let number = grant_numbered story legal of.there.0 stripe block.container pipeline of.first of.count grant in
      let ends = grant_within opening story legal of.there.0 stripe block.container pipeline of.first of.count grant in
      let from = local_from opening story legal stripe block pipeline of in
      let within = local_within opening story legal stripe block pipeline of in
      ((number.0, omega (arith, number.1, ends)), (omega (arith, some, from), omega (arith, within)))
