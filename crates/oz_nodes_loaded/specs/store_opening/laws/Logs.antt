-- The log of deleted blocks of an opening is ordered where the storage container manager's is, and empty where that is.
use Rattle.std.proofs.Common.{
  ◌≡◌,
  ◌≢◌,
  ◌==◌,
  ℕ,
  ◌≤◌,
  Bool,
  true,
  false,
  List,
  [],
  ◌∷◌,
  ◌++◌,
  length,
  map,
  filter,
  get_or,
  Option,
  None,
  Some,
  All,
  AllPairs,
  Contains,
  T,
  cond,
  option_map,
  refl,
  sym,
  ◌∙◌,
  ap,
  subst,
  arith,
}
use Rattle.std.proofs.Math.Bool.{◌&&◌}
use Rattle.std.proofs.lemmas.Bool.{eqb-true, false≢true}
use Rattle.std.proofs.lemmas.Cmp.{nat_cmp_total}
use Rattle.std.proofs.lemmas.List.Elements.{All-cons, All-nil, filter_passes}
use Rattle.std.proofs.lemmas.List.FromFn.{get_or-range_with_len, length-range_with_len}
use Rattle.std.proofs.lemmas.List.Kept.{AllPairs-cons, AllPairs-filter}
use Rattle.std.proofs.lemmas.Map.Keys.{IsDistinct-from_sorted}
use Rattle.std.proofs.lemmas.Map.Views.{Contains-from_any, lookup-from_Contains}
use Rattle.std.specs.declared.cmp.Ordering.{Ordering}
use Rattle.std.specs.declared.cmp.Ordering.TheVariants.{Less, Equal, Greater}
use Rattle.std.specs.Cmp.{eq_by_cmp_equiv}
use Rattle.std.specs.FinMap.{FinMap, empty, entries, entries_sorted, find, get, get-entries, is_sorted, len-empty, len-entries}
use Rattle.std.specs.FinMap.Entries.{below_all}
use Rattle.std.specs.List.{AllByRecursion, list_any, range_with_len}
use Rattle.std.specs.List.Sorted.{IsStrictlySortedBy}
use Rattle.std.specs.Map.{keys_of, lookup}
use Rattle.std.specs.Option.{option_map_or}
use Rattle.std.specs.Ordering.{eq_by_cmp, is_lt, nat_cmp, ordering_reverse}
use Rattle.oz_core.specs.declared.opening.Container.{Container}
use Rattle.oz_core.specs.declared.opening.Opening.{Opening}
use Rattle.oz_core.specs.declared.opening.Unretired.{Unretired}
use Rattle.oz_core.specs.Coherent.{LogIsCoherent}
use Rattle.oz_core.specs.Scm.{is_in_logs, is_logged_at_opening, logged, members}
use Rattle.oz_core.specs.Stories.{all_told}
use Rattle.oz_datanode.specs.Datanode.{State as Datanode}
use Rattle.oz_dellog.specs.Logged.{is_acknowledged_by}
use Rattle.oz_dellog.specs.declared.logged.Logged.{Logged}
use Rattle.oz_fields.specs.declared.block.Block.{Block}
use Rattle.oz_loaded.specs.Unseated.{UnseatedView}
use Rattle.oz_model.specs.laws.Members.{of_mapped}
use Rattle.oz_namespace.specs.declared.namespace.Namespace.{Namespace}
use Rattle.oz_nodes.specs.Pipelines.{members_of}
use Rattle.oz_owned.specs.Ordered.{LogIsOrdered}
use Rattle.oz_scm.specs.declared.grants.container.Container.{Container as MadeContainer}
use Rattle.oz_scm.specs.grants.Log.{IsOrdered}
use Rattle.oz_scm.specs.grants.Made.{Made, container_at, is_member}
use Rattle.oz_nodes_loaded.specs.store_opening.Openings.{acknowledged_by, containers_from, opened_container, opened_log, opened_txn, opening_of}
use Rattle.oz_nodes_loaded.specs.store_opening.laws.Containers.{containers_are}

-- ---- numbers that rise differ

front : (a b : Bool) → T (a && b) → T a
front true b p = tt
front false b p = p

back : (a b : Bool) → T (a && b) → T b
back true b p = p
back false b p = absurd p

never_less : (order : Ordering) → order ≡ ordering_reverse order → T (is_lt order) → ⊥
never_less Less same is = subst (λ (o : Ordering). T (is_lt o)) same tt
never_less Equal same is = absurd is
never_less Greater same is = absurd is

less_differ : (a b : ℕ) → T (is_lt (nat_cmp a b)) → a ≢ b
less_differ a b is same =
    never_less (nat_cmp a b) (subst (λ (n : ℕ). nat_cmp a n ≡ ordering_reverse (nat_cmp a n)) same (nat_cmp_total.antisymm a a)) is

abbrev Apart : Unretired → Unretired → Type 0
Apart one other = one.txn.number ≢ other.txn.number

above_differ : (entry : ℕ × Logged) (es : List (ℕ × Logged)) → T (below_all nat_cmp entry.0 es) → All (Apart (opened_txn entry)) (map opened_txn es)
above_differ entry [] above = All-nil (Apart (opened_txn entry))
above_differ entry (e ∷ es) above =
    All-cons (Apart (opened_txn entry)) (opened_txn e) (map opened_txn es) (less_differ entry.0 e.0 (front _ _ above)) (above_differ entry es (back _ _ above))

all_differ : (es : List (ℕ × Logged)) → T (is_sorted nat_cmp es) → AllPairs Apart (map opened_txn es)
all_differ [] sorted = λ i j d less within. absurd (omega (arith, within))
all_differ (e ∷ es) sorted =
    AllPairs-cons Apart (opened_txn e) (map opened_txn es) (above_differ e es (front _ _ sorted)) (all_differ es (back _ _ sorted))

-- ---- an entry is what its number has

is_less : (order : Ordering) → T (is_lt order) → order ≡ Less
is_less Less p = refl
is_less Equal p = absurd p
is_less Greater p = absurd p

below_rest : (number : ℕ) (es : List (ℕ × Logged)) → T (below_all nat_cmp number es) → AllByRecursion (λ (y : ℕ). nat_cmp number y ≡ Less) (keys_of es)
below_rest number [] all = tt
below_rest number (e ∷ es) all = (is_less (nat_cmp number e.0) (front _ _ all), below_rest number es (back _ _ all))

rising : (es : List (ℕ × Logged)) → T (is_sorted nat_cmp es) → IsStrictlySortedBy nat_cmp (keys_of es)
unfolding IsStrictlySortedBy
rising [] sorted = tt
rising (e ∷ es) sorted = (below_rest e.0 es (front _ _ sorted), rising es (back _ _ sorted))

looked : (number : ℕ) (es : List (ℕ × Logged)) → lookup (eq_by_cmp nat_cmp number) es ≡ find nat_cmp number es
looked number [] = refl
looked number (e ∷ es) = ap (cond (eq_by_cmp nat_cmp number e.0) (Some e.1)) (looked number es)

entry_is : (log : FinMap nat_cmp Logged) (number : ℕ) (its : Logged) → Contains (entries log) (number, its) → get log number ≡ Some its
entry_is log number its among =
    get-entries log number ∙ sym (looked number (entries log))
    ∙ lookup-from_Contains (eq_by_cmp_equiv nat_cmp_total) number its (entries log)
    (IsDistinct-from_sorted nat_cmp (keys_of (entries log)) (rising (entries log) (entries_sorted log))) among

-- what is in the log of an opening stands under its number
pub record IsOf (log : FinMap nat_cmp Logged) (it : Unretired) : Type 0 where
  pub its : Logged
  pub there : get log it.txn.number ≡ Some its
  pub is : it ≡ opened_txn (it.txn.number, its)

pub comes_of : (log : FinMap nat_cmp Logged) (it : Unretired) → Contains (opened_log log) it → IsOf log it
comes_of log it among =
    let from = of_mapped opened_txn (entries log) it among in
    subst (IsOf log) from.2 (record { its = from.0.1; there = entry_is log from.0.0 from.0.1 from.1; is = refl })

-- ---- who acknowledged

range_differs : (count : ℕ) → AllPairs ◌≢◌ (range_with_len 0 count)
range_differs count = λ i j d less within same.
    let many = length-range_with_len 0 count in
    let one = get_or-range_with_len 0 count i d (omega (arith, less, within, many)) in
    let other = get_or-range_with_len 0 count j d (omega (arith, within, many)) in
    omega (arith, less, one, other, same)

acknowledgers_differ : (its : Logged) → AllPairs ◌≢◌ (acknowledged_by its)
acknowledgers_differ its =
    AllPairs-filter ◌≢◌ (is_acknowledged_by its) (range_with_len 0 (length its.acknowledged)) (range_differs (length its.acknowledged))

is_among : (dn : ℕ) (all : List ℕ) → list_any (λ member. member == dn) all ≡ true → Contains all dn
is_among dn all any = Contains-from_any {eq = λ (q member : ℕ). member == q} (λ x y e. sym (eqb-true y x e)) dn all any

members_are : (count : ℕ) (made : List MadeContainer) (number dn : ℕ) → is_member count (container_at made number) dn ≡ true
    → Contains (option_map_or (λ (container : Container). members_of count container.pipeline) (get (containers_from 1 made) number) []) dn
members_are count made number dn member =
    subst (λ (o : Option Container). Contains (option_map_or (λ (container : Container). members_of count container.pipeline) o []) dn)
    (sym (containers_are made number)) (by (container_at made number) member)
  where
    by : (o : Option MadeContainer) → is_member count o dn ≡ true
        → Contains (option_map_or (λ (container : Container). members_of count container.pipeline) (option_map opened_container o) []) dn
    by None none = absurd (false≢true none)
    by (Some container) some = is_among dn (members_of count container.pipeline) some

-- ---- the log

module _ {D : Type 0} (unseated : UnseatedView) (namespace : Namespace) (made : Made) (nodes : List (Datanode D)) where
  abbrev opening : Opening
  opening = opening_of unseated namespace made nodes

  module _ (count : made.nodes ≡ length opening.nodes) (ordered : IsOrdered made) where
    placed : (number : ℕ) (its : Logged) → get made.unretired number ≡ Some its
        → All (Contains (members opening [] its.container)) (acknowledged_by its)
    placed number its there = λ k d within.
        let dn = get_or (acknowledged_by its) k d in
        let flag = filter_passes (is_acknowledged_by its) (range_with_len 0 (length its.acknowledged)) k d within in
        let of = ordered.members number its there in
        members_are (length opening.nodes) made.containers its.container dn
        (subst (λ (n : ℕ). is_member n (container_at made.containers its.container) dn ≡ true) count
        (subst (λ (o : Option MadeContainer). is_member made.nodes o dn ≡ true) (sym of.there) (of.members dn flag)))

    pub loaded_log_is_ordered : LogIsOrdered opening
    loaded_log_is_ordered = record {
      apart = all_differ (entries made.unretired) (entries_sorted made.unretired);
      old = λ it among. let from = comes_of made.unretired it among in ordered.last it.txn.number from.its from.there;
      placed = λ it among. let from = comes_of made.unretired it among in
          subst (λ (u : Unretired). All (Contains (members opening [] u.txn.container)) u.acknowledgers) (sym from.is) (placed it.txn.number from.its from.there);
      differ = λ it among. let from = comes_of made.unretired it among in
          subst (λ (u : Unretired). AllPairs ◌≢◌ u.acknowledgers) (sym from.is) (acknowledgers_differ from.its);
    }

-- ---- no log

none_of_none : {X : Type 0} (l : List X) → length l ≡ 0 → l ≡ []
none_of_none [] none = refl
none_of_none (x ∷ l) none = absurd (omega (arith, none))

pub empty_log : (log : FinMap nat_cmp Logged) → log ≡ empty → opened_log log ≡ []
empty_log log none =
    ap opened_log none ∙ ap (map opened_txn) (none_of_none (entries (empty {X = Logged} {R = nat_cmp}))
    (sym (len-entries (empty {X = Logged} {R = nat_cmp})) ∙ len-empty nat_cmp Logged))

pub no_log_is_coherent : (opening : Opening) → opening.unretired ≡ [] → LogIsCoherent opening
no_log_is_coherent opening none = record {
  unreached = λ block is reached. false≢true (sym (unlogged block) ∙ is);
  granted = λ block is. absurd (false≢true (sym (unlogged block) ∙ is));
}
  where
    unlogged : (block : Block) → is_logged_at_opening opening block ≡ false
    unlogged block = ap (λ (l : List Unretired). is_in_logs (map (λ (it : Unretired). it.txn) l ++ all_told logged []) block) none
