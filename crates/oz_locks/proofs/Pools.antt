-- A pool whose seat has seen more, or has granted; and what a pool has.
use Rattle.std.proofs.Common.{◌≡◌, ⊎_elim, ◌⊎◌, inl, inr, ℕ, zero, suc, ◌+◌, ◌<◌, ◌≤◌, ◌==◌, Bool, true, false, not, ◌&&◌, ◌||◌, List, [], ◌∷◌, ◌++◌, length, take, slice_index_or, filter, Option, None, Some, IfSome, Any, Contains, cond, refl, sym, ◌∙◌, ap, subst, append_assoc, append-nil, length-append, arith}
use mathlib.Core.Bool.{false≢true}
use Rattle.std.proofs.lemmas.List.{take_more}
use Rattle.std.proofs.lemmas.Bool.{and_parts, eq-eqb, eqb-true}
use Rattle.std.proofs.lemmas.Grind.{flat_map-append}
use Rattle.std.proofs.lemmas.List.Elements.{filter-append, filter_agree, filter_map-append, Contains-append_left, Contains-append_right, Contains-append_cases}
use Rattle.std.proofs.lemmas.List.Folds.{length-flat_map-take, list_any-append}
use Rattle.std.specs.List.{cons_option}
use Rattle.std.proofs.lemmas.List.FromFn.{length-map-range_with_len, get_or-map-range_with_len, map-range_with_len_more}
use Rattle.oz_core.specs.declared.event.Event.{Event}
use Rattle.oz_core.specs.declared.event.EventKind.{EventKind}
use Rattle.oz_core.specs.declared.event.EventKind.TheVariants.{Grant}
use Rattle.oz_core.specs.Manager.{granted_block}
use Rattle.oz_core.specs.Nodes.{is_block}
use Rattle.oz_core.specs.Scm.{IsOfGrant}
use Rattle.oz_fields.specs.declared.block.Block.{Block}
use Rattle.oz_locks.specs.declared.pool.FreeBlock.{FreeBlock}
use Rattle.oz_locks.specs.Pool.{AreFresh, AreOfGrants, IsFree, blocks_granted, blocks_in, blocks_of_grant, is_among, pool_of, used_by, without}

-- ---- lists

pub in_none : {A : Type 0} (x : A) → Contains [] x → ⊥
in_none x there = let less = there.1 in omega arith

pub first_or_later : {A : Type 0} (first x : A) (l : List A) → Contains (first ∷ l) x → (first ≡ x) ⊎ Contains l x
first_or_later {A} first x l there = by there.0 there.1 there.2
  where
    by : (k : ℕ) → k < length (first ∷ l) → slice_index_or (first ∷ l) k x ≡ x → (first ≡ x) ⊎ Contains l x
    by zero less same = inl same
    by (suc k) less same = inr (k, omega arith, same)

pub behind : {A : Type 0} (first x : A) (l : List A) → Contains l x → Contains (first ∷ l) x
behind first x l later = let less = later.1 in (suc later.0, omega arith, later.2)

-- what a test leaves was there, and passes
pub of_filtered : {A : Type 0} (p : A → Bool) (l : List A) (x : A) → Contains (filter p l) x → Contains l x × (p x ≡ true)
of_filtered p [] x among = absurd (in_none x among)
of_filtered {A} p (first ∷ l) x among = by (p first) refl among (of_filtered p l x)
  where
    by : (t : Bool) → p first ≡ t → Contains (cond t (first ∷ filter p l) (filter p l)) x → (Contains (filter p l) x → Contains l x × (p x ≡ true)) → Contains (first ∷ l) x × (p x ≡ true)
    by true passes among rest = ⊎_elim
        (λ same. ((0, omega arith, same), ap p (sym same) ∙ passes))
        (λ later. let r = rest later in (behind first x l r.0, r.1))
        (first_or_later first x (filter p l) among)
    by false fails among rest = let r = rest among in (behind first x l r.0, r.1)

-- and what passes stays
pub stays_filtered : {A : Type 0} (p : A → Bool) (l : List A) (x : A) → Contains l x → p x ≡ true → Contains (filter p l) x
stays_filtered p [] x there passes = absurd (in_none x there)
stays_filtered {A} p (first ∷ l) x there passes = by (p first) refl (stays_filtered p l x)
  where
    by : (t : Bool) → p first ≡ t → (Contains l x → p x ≡ true → Contains (filter p l) x) → Contains (cond t (first ∷ filter p l) (filter p l)) x
    by true is rest = ⊎_elim (λ same. (0, omega arith, same)) (λ later. behind first x (filter p l) (rest later passes)) (first_or_later first x l there)
    by false is rest = ⊎_elim (λ same. absurd (false≢true (sym is ∙ ap p same ∙ passes))) (λ later. rest later passes) (first_or_later first x l there)

-- ---- lists and tests

pub filter_all : {A : Type 0} (p : A → Bool) (l : List A) → ((x : A) → Contains l x → p x ≡ true) → filter p l ≡ l
filter_all p [] all = refl
filter_all p (x ∷ l) all =
    ap (λ t. cond t (x ∷ filter p l) (filter p l)) (all x (0, omega arith, refl))
    ∙ ap (λ r. x ∷ r) (filter_all p l (λ y there. all y (behind x y l there)))

-- two filters one after the other are one
pub filter_both : {A : Type 0} (p q : A → Bool) (l : List A) → filter (λ x. not (p x || (q x || false))) l ≡ filter (λ x. not (q x)) (filter (λ x. not (p x)) l)
filter_both p q [] = refl
filter_both {A} p q (x ∷ l) = by (p x) (q x) refl refl (filter_both p q l)
  where
    both : List A
    both = filter (λ x. not (p x || (q x || false))) l

    first : List A
    first = filter (λ x. not (p x)) l

    by : (s t : Bool) → p x ≡ s → q x ≡ t → filter (λ x. not (p x || (q x || false))) l ≡ filter (λ x. not (q x)) (filter (λ x. not (p x)) l)
        → cond (not (s || (t || false))) (x ∷ both) both ≡ filter (λ x. not (q x)) (cond (not s) (x ∷ first) first)
    by true t a b rest = rest
    by false true a b rest = rest ∙ sym (ap (λ t. cond (not t) (x ∷ filter (λ x. not (q x)) first) (filter (λ x. not (q x)) first)) b)
    by false false a b rest =
        ap (λ r. x ∷ r) rest ∙ sym (ap (λ t. cond (not t) (x ∷ filter (λ x. not (q x)) first) (filter (λ x. not (q x)) first)) b)

-- ---- blocks

pub is_itself : (block : Block) → is_block block block ≡ true
is_itself block = ap (λ t. t && (block.local == block.local)) (eq-eqb block.container block.container refl) ∙ eq-eqb block.local block.local refl

pub one_block : (block other : Block) → is_block block other ≡ true → block ≡ other
one_block block other same =
    let parts = and_parts (other.container == block.container) (other.local == block.local) same in
    sym (ap (λ c. record { container = c; local = other.local }) (eqb-true other.container block.container parts.0)
    ∙ ap (λ l. record { container = block.container; local = l }) (eqb-true other.local block.local parts.1))

pub is_there : (blocks : List Block) (block : Block) → Contains blocks block → is_among blocks block ≡ true
is_there [] block there = absurd (in_none block there)
is_there (x ∷ blocks) block there = ⊎_elim
    (λ same. ap (λ t. t || is_among blocks block) (ap (λ (b : Block). is_block b block) same ∙ is_itself block))
    (λ later. ap (λ t. is_block x block || t) (is_there blocks block later) ∙ or_true (is_block x block))
    (first_or_later x block blocks there)
  where
    or_true : (t : Bool) → (t || true) ≡ true
    or_true true = refl
    or_true false = refl

pub there_is : (blocks : List Block) (block : Block) → is_among blocks block ≡ true → Contains blocks block
there_is [] block among = absurd (false≢true among)
there_is (x ∷ blocks) block among = by (is_block x block) refl among (there_is blocks block)
  where
    by : (t : Bool) → is_block x block ≡ t → (t || is_among blocks block) ≡ true → (is_among blocks block ≡ true → Contains blocks block) → Contains (x ∷ blocks) block
    by true is among later = (0, omega arith, one_block x block is)
    by false is among later = behind x block blocks (later among)

-- ---- what the stripe's own Decides granted

-- what the seat used, with an event more
pub used-push : (mine : List Event) (event : Event) (granted : Option Block) → granted_block event.kind ≡ granted → (block : Block)
    → Contains (used_by (mine ++ event ∷ [])) block → Contains (used_by mine) block ⊎ (granted ≡ Some block)
used-push mine event granted is block there = ⊎_elim inl (by granted is) (Contains-append_cases (used_by mine) (used_by (event ∷ [])) block
    (subst (λ (l : List Block). Contains l block) (filter_map-append (λ (event : Event). granted_block event.kind) mine (event ∷ [])) there))
  where
    by : (o : Option Block) → granted_block event.kind ≡ o → Contains (used_by (event ∷ [])) block → Contains (used_by mine) block ⊎ (o ≡ Some block)
    by None e last = absurd (in_none block (subst (λ (l : List Block). Contains l block) (only_none e) last))
      where
        only_none : granted_block event.kind ≡ None → used_by (event ∷ []) ≡ []
        only_none e = rw e refl
    by (Some other) e last = inr (⊎_elim (λ same. ap Some same) (λ none. absurd (in_none block none)) (first_or_later other block [] (subst (λ (l : List Block). Contains l block) (only_one e) last)))
      where
        only_one : granted_block event.kind ≡ Some other → used_by (event ∷ []) ≡ other ∷ []
        only_one e = rw e refl

-- one event more
pub used_more : (mine : List Event) (event : Event) (granted : Option Block) → granted_block event.kind ≡ granted
    → used_by (mine ++ event ∷ []) ≡ used_by mine ++ cons_option granted []
used_more mine event granted is =
    filter_map-append (λ (event : Event). granted_block event.kind) mine (event ∷ []) ∙ ap (λ o. used_by mine ++ cons_option o []) is

-- ---- pools

abbrev unused : List Event → FreeBlock → Bool
unused mine free = not (is_among (used_by mine) free.block)

pub pool_granted : (stripe : ℕ) (known mine : List Event) (event : Event) (granted : Option Block) → granted_block event.kind ≡ granted
    → pool_of stripe known (mine ++ event ∷ []) ≡ without granted (pool_of stripe known mine)
pool_granted stripe known mine event granted is =
    ap (λ (used : List Block). filter (λ (free : FreeBlock). not (is_among used free.block)) (blocks_granted stripe known)) (used_more mine event granted is)
    ∙ by granted
  where
    by : (o : Option Block) → filter (λ (free : FreeBlock). not (is_among (used_by mine ++ cons_option o []) free.block)) (blocks_granted stripe known)
        ≡ without o (pool_of stripe known mine)
    by None = ap (λ (used : List Block). filter (λ (free : FreeBlock). not (is_among used free.block)) (blocks_granted stripe known)) (append-nil (used_by mine))
    by (Some block) =
        filter_agree (λ (free : FreeBlock). not (is_among (used_by mine ++ block ∷ []) free.block))
        (λ (free : FreeBlock). not (is_among (used_by mine) free.block || (is_block block free.block || false)))
        (λ (free : FreeBlock). ap not (list_any-append (λ other. is_block other free.block) (used_by mine) (block ∷ []))) (blocks_granted stripe known)
        ∙ filter_both (λ (free : FreeBlock). is_among (used_by mine) free.block) (λ (free : FreeBlock). is_block block free.block) (blocks_granted stripe known)

-- a block that is granted from the pool is of a Grant
pub of_grants_granted : (stripe : ℕ) (known mine : List Event) (event : Event) (granted : Option Block) (pool : List FreeBlock) → granted_block event.kind ≡ granted
    → pool ≡ pool_of stripe known mine → IfSome granted (λ block. Any (λ (free : FreeBlock). free.block ≡ block) pool)
    → AreOfGrants stripe known mine → AreOfGrants stripe known (mine ++ event ∷ [])
of_grants_granted stripe known mine event granted pool is pool_is pooled are block there =
    ⊎_elim (λ before. are block before) (λ now. by granted now pooled) (used-push mine event granted is block there)
  where
    by : (o : Option Block) → o ≡ Some block → IfSome o (λ block. Any (λ (free : FreeBlock). free.block ≡ block) pool)
        → (pipeline : ℕ) × Contains (blocks_granted stripe known) (record { block = block; pipeline = pipeline })
    by None e found = absurd cc
    by (Some other) e found =
        let free = found.1 in
        let among = of_filtered (unused mine) (blocks_granted stripe known) free (subst (λ (l : List FreeBlock). Contains l free) pool_is (found.0, found.2, found.3)) in
        let its : free.block ≡ block = found.4 ∙ inside e in
        (free.pipeline, subst (λ (b : Block). Contains (blocks_granted stripe known) (record { block = b; pipeline = free.pipeline })) its among.0)
      where
        inside : Some other ≡ Some block → other ≡ block
        inside e = cc

-- the Grants in later events are looked at
pub pool_more : (stripe : ℕ) (known more mine : List Event) → AreOfGrants stripe known mine → AreFresh stripe known more
    → pool_of stripe (known ++ more) mine ≡ pool_of stripe known mine ++ blocks_granted stripe more
pool_more stripe known more mine are fresh =
    ap (filter (unused mine)) (flat_map-append (λ (event : Event). blocks_in stripe event.kind) known more)
    ∙ filter-append (unused mine) (blocks_granted stripe known) (blocks_granted stripe more)
    ∙ ap (λ (l : List FreeBlock). pool_of stripe known mine ++ l) (filter_all (unused mine) (blocks_granted stripe more) (λ free there. by free there (is_among (used_by mine) free.block) refl))
  where
    by : (free : FreeBlock) → Contains (blocks_granted stripe more) free → (t : Bool) → is_among (used_by mine) free.block ≡ t → not (is_among (used_by mine) free.block) ≡ true
    by free there true used =
        let before = are free.block (there_is (used_by mine) free.block used) in
        absurd (fresh (record { block = free.block; pipeline = before.0 }) free before.1 there refl)
    by free there false used = ap not used

pub of_more_grants : (stripe : ℕ) (known more mine : List Event) → AreOfGrants stripe known mine → AreOfGrants stripe (known ++ more) mine
of_more_grants stripe known more mine are block there =
    let before = are block there in (
      before.0,
      subst (λ (l : List FreeBlock). Contains l (record { block = block; pipeline = before.0 })) (sym (flat_map-append (λ (event : Event). blocks_in stripe event.kind) known more))
          (Contains-append_left (blocks_granted stripe known) (blocks_granted stripe more) (record { block = block; pipeline = before.0 }) before.1),
    )

-- ---- what a pool has

-- the blocks of a Grant that was seen
of_grant : (stripe : ℕ) (seen : List Event) (container pipeline first count : ℕ) → (seat : ℕ) × Contains seen (record { seat = seat; kind = Grant stripe container pipeline first count })
    → (free : FreeBlock) → Contains (blocks_of_grant container pipeline first count) free → IsOfGrant seen stripe free.block free.pipeline
of_grant stripe seen container pipeline first count there free among =
    subst (λ (free : FreeBlock). IsOfGrant seen stripe free.block free.pipeline) (sym its ∙ among.2) (record {
      seat = there.0;
      first = first;
      count = count;
      there = there.1;
      place = among.0;
      within = within;
      local = refl;
    })
  where
    within : among.0 < count
    within =
        let long = length-map-range_with_len {X = FreeBlock} (λ local. record { block = record { container = container; local = local }; pipeline = pipeline }) first count in
        let less = among.1 in
        omega (arith, less, long)

    its : slice_index_or (blocks_of_grant container pipeline first count) among.0 free ≡ record { block = record { container = container; local = first + among.0 }; pipeline = pipeline }
    its = get_or-map-range_with_len {X = FreeBlock} (λ local. record { block = record { container = container; local = local }; pipeline = pipeline }) first count among.0 (first + among.0) free
        (let long = length-map-range_with_len {X = FreeBlock} (λ local. record { block = record { container = container; local = local }; pipeline = pipeline }) first count in
        let less = among.1 in
        omega (arith, less, long)) refl

later_grant : (stripe : ℕ) (event : Event) (seen : List Event) (block : Block) (pipeline : ℕ) → IsOfGrant seen stripe block pipeline → IsOfGrant (event ∷ seen) stripe block pipeline
later_grant stripe event seen block pipeline g = record {
  seat = g.seat;
  first = g.first;
  count = g.count;
  there = behind event (record { seat = g.seat; kind = Grant stripe block.container pipeline g.first g.count }) seen g.there;
  place = g.place;
  within = g.within;
  local = g.local;
}

in_the_first : (stripe : ℕ) (event : Event) (seen : List Event) (free : FreeBlock) → Contains (blocks_in stripe event.kind) free → IsOfGrant (event ∷ seen) stripe free.block free.pipeline
in_the_first stripe event seen free there = by event.kind refl there
  where
    its : (other container pipeline first count : ℕ) (t : Bool) → (other == stripe) ≡ t → event.kind ≡ Grant other container pipeline first count
        → Contains (cond t (blocks_of_grant container pipeline first count) []) free → IsOfGrant (event ∷ seen) stripe free.block free.pipeline
    its other container pipeline first count true same is among =
        of_grant stripe (event ∷ seen) container pipeline first count
        (event.seat, (0, omega arith, ap (λ k. record { seat = event.seat; kind = k }) (is ∙ ap (λ n. Grant n container pipeline first count) (eqb-true other stripe same)))) free among
    its other container pipeline first count false same is among = absurd (in_none free among)

    by : (kind : EventKind) → event.kind ≡ kind → Contains (blocks_in stripe kind) free → IsOfGrant (event ∷ seen) stripe free.block free.pipeline
    by (Grant other container pipeline first count) is among = its other container pipeline first count (other == stripe) refl is among
    by _ is among = absurd (in_none free among)

granted_is : (stripe : ℕ) (known : List Event) (free : FreeBlock) → Contains (blocks_granted stripe known) free → IsOfGrant known stripe free.block free.pipeline
granted_is stripe [] free there = absurd (in_none free there)
granted_is stripe (event ∷ known) free there = ⊎_elim
    (λ now. in_the_first stripe event known free now)
    (λ later. later_grant stripe event known free.block free.pipeline (granted_is stripe known free later))
    (Contains-append_cases (blocks_in stripe event.kind) (blocks_granted stripe known) free there)

-- a place of a Grant is among its blocks
at_place : (container pipeline first count place : ℕ) (free : FreeBlock) → place < count → free ≡ record { block = record { container = container; local = first + place }; pipeline = pipeline }
    → Contains (blocks_of_grant container pipeline first count) free
at_place container pipeline first count place free within is =
    let long = length-map-range_with_len {X = FreeBlock} (λ local. record { block = record { container = container; local = local }; pipeline = pipeline }) first count in (
      place,
      omega (arith, within, long),
      get_or-map-range_with_len {X = FreeBlock} (λ local. record { block = record { container = container; local = local }; pipeline = pipeline }) first count place (first + place) free within refl ∙ sym is,
    )

is_granted : (stripe : ℕ) (known : List Event) (free : FreeBlock) (seat first count place : ℕ)
    → Contains known (record { seat = seat; kind = Grant stripe free.block.container free.pipeline first count }) → place < count → free.block.local ≡ first + place
    → Contains (blocks_granted stripe known) free
is_granted stripe [] free seat first count place there within local = absurd (in_none (record { seat = seat; kind = Grant stripe free.block.container free.pipeline first count }) there)
is_granted stripe (event ∷ known) free seat first count place there within local = ⊎_elim
    (λ same. Contains-append_left (blocks_in stripe event.kind) (blocks_granted stripe known) free
    (subst (λ (e : Event). Contains (blocks_in stripe e.kind) free) (sym same)
    (subst (λ t. Contains (cond t (blocks_of_grant free.block.container free.pipeline first count) []) free) (sym (eq-eqb stripe stripe refl))
    (at_place free.block.container free.pipeline first count place free within
    (ap (λ l. record { block = record { container = free.block.container; local = l }; pipeline = free.pipeline }) local)))))
    (λ later. Contains-append_right (blocks_in stripe event.kind) (blocks_granted stripe known) free (is_granted stripe known free seat first count place later within local))
    (first_or_later event (record { seat = seat; kind = Grant stripe free.block.container free.pipeline first count }) known there)

pub pool_is_free : (stripe : ℕ) (known mine : List Event) (free : FreeBlock) → Contains (pool_of stripe known mine) free → IsFree stripe known mine free
pool_is_free stripe known mine free there =
    let among = of_filtered (unused mine) (blocks_granted stripe known) free there in record {
      granted = granted_is stripe known free among.0;
      unused = λ used. false≢true (sym (ap not (is_there (used_by mine) free.block used)) ∙ among.1);
    }

pub free_is_in_pool : (stripe : ℕ) (known mine : List Event) (free : FreeBlock) → IsFree stripe known mine free → Contains (pool_of stripe known mine) free
free_is_in_pool stripe known mine free is =
    let g = is.granted in
    stays_filtered (unused mine) (blocks_granted stripe known) free (is_granted stripe known free g.seat g.first g.count g.place g.there g.within g.local)
    (by (is_among (used_by mine) free.block) refl)
  where
    by : (t : Bool) → is_among (used_by mine) free.block ≡ t → not (is_among (used_by mine) free.block) ≡ true
    by true e = absurd (is.unused (there_is (used_by mine) free.block e))
    by false e = ap not e

-- ---- a pool that grows

pub blocks_are : (of_stripe : ℕ) (kind : EventKind) (stripe container pipeline first count : ℕ) → kind ≡ Grant stripe container pipeline first count → stripe ≡ of_stripe
    → blocks_in of_stripe kind ≡ blocks_of_grant container pipeline first count
blocks_are of_stripe kind stripe container pipeline first count is same =
    ap (blocks_in of_stripe) is ∙ ap (λ t. cond t (blocks_of_grant container pipeline first count) []) (eq-eqb stripe of_stripe same)

pub so_many_blocks : (of_stripe : ℕ) (kind : EventKind) (stripe container pipeline first count : ℕ) → kind ≡ Grant stripe container pipeline first count → stripe ≡ of_stripe
    → length (blocks_in of_stripe kind) ≡ count
so_many_blocks of_stripe kind stripe container pipeline first count is same =
    ap length (blocks_are of_stripe kind stripe container pipeline first count is same)
    ∙ length-map-range_with_len {X = FreeBlock} (λ local. record { block = record { container = container; local = local }; pipeline = pipeline }) first count

pub room_for_next : (stripe : ℕ) (events : List Event) (i : ℕ) (item : Event) (held pool : List FreeBlock) (capacity : ℕ) → item ≡ slice_index_or events i item → i < length events
    → length pool ≡ length held + length (blocks_granted stripe (take i events)) → length held + length (blocks_granted stripe events) ≤ capacity
    → length pool + length (blocks_in stripe item.kind) ≤ capacity
room_for_next stripe events i item held pool capacity item_is within long room =
    let step = length-flat_map-take (λ (event : Event). blocks_in stripe event.kind) events i item within in
    let its : length (blocks_in stripe (slice_index_or events i item).kind) ≡ length (blocks_in stripe item.kind) = ap (λ (e : Event). length (blocks_in stripe e.kind)) (sym item_is) in
    omega (arith, step, its, long, room)

-- the blocks of the Grants among one event more
granted_next : (stripe : ℕ) (events : List Event) (i : ℕ) (item : Event) → item ≡ slice_index_or events i item → i < length events
    → blocks_granted stripe (take (i + 1) events) ≡ blocks_granted stripe (take i events) ++ blocks_in stripe item.kind
granted_next stripe events i item item_is within =
    ap (blocks_granted stripe) (take_more events i item within)
    ∙ flat_map-append (λ (event : Event). blocks_in stripe event.kind) (take i events) (slice_index_or events i item ∷ [])
    ∙ ap (λ (l : List FreeBlock). blocks_granted stripe (take i events) ++ l)
    (append-nil (blocks_in stripe (slice_index_or events i item).kind) ∙ ap (λ (e : Event). blocks_in stripe e.kind) (sym item_is))

pub pool_next : (stripe : ℕ) (events : List Event) (i : ℕ) (item : Event) (held pool all : List FreeBlock) → item ≡ slice_index_or events i item → i < length events
    → pool ≡ held ++ blocks_granted stripe (take i events) → all ≡ pool ++ blocks_in stripe item.kind → all ≡ held ++ blocks_granted stripe (take (i + 1) events)
pool_next stripe events i item held pool all item_is within pool_is all_is =
    all_is ∙ ap (λ (l : List FreeBlock). l ++ blocks_in stripe item.kind) pool_is
    ∙ append_assoc held (blocks_granted stripe (take i events)) (blocks_in stripe item.kind)
    ∙ ap (λ (l : List FreeBlock). held ++ l) (sym (granted_next stripe events i item item_is within))

pub count_next : (stripe : ℕ) (events : List Event) (i : ℕ) (item : Event) (held pool all : List FreeBlock) → item ≡ slice_index_or events i item → i < length events
    → length pool ≡ length held + length (blocks_granted stripe (take i events)) → length all ≡ length pool + length (blocks_in stripe item.kind)
    → length all ≡ length held + length (blocks_granted stripe (take (i + 1) events))
count_next stripe events i item held pool all item_is within long all_long =
    let next = ap length (granted_next stripe events i item item_is within) ∙ length-append (blocks_granted stripe (take i events)) (blocks_in stripe item.kind) in
    omega (arith, next, long, all_long)

pub one_more_of_grant : (pool : List FreeBlock) (container pipeline first place local : ℕ) → local ≡ first + place
    → (pool ++ blocks_of_grant container pipeline first place) ++ record { block = record { container = container; local = local }; pipeline = pipeline } ∷ [] ≡ pool ++ blocks_of_grant container pipeline first (place + 1)
one_more_of_grant pool container pipeline first place local is =
    append_assoc pool (blocks_of_grant container pipeline first place) (record { block = record { container = container; local = local }; pipeline = pipeline } ∷ [])
    ∙ ap (λ (l : List FreeBlock). pool ++ l) (sym (map-range_with_len_more {X = FreeBlock} (λ local. record { block = record { container = container; local = local }; pipeline = pipeline }) first place local (sym is)))
