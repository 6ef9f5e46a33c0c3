-- Members of lists that are joined, filtered or mapped, and the values of finite maps.
use Rattle.std.proofs.Common.{
  ◌≡◌,
  ⊎_elim,
  Bool,
  true,
  T,
  is_some,
  false,
  List,
  [],
  ◌∷◌,
  Option,
  None,
  Some,
  refl,
  sym,
  ap,
  subst,
  ◌∙◌,
  cond,
  suc,
  ◌||◌,
  map,
  filter,
  arith,
}
use mathlib.Core.Bool.{false≢true}
use Rattle.std.proofs.Math.Bool.{◌&&◌}
use Rattle.std.specs.declared.cmp.Ordering.{Ordering}
use Rattle.std.specs.declared.cmp.Ordering.TheVariants.{Less, Equal, Greater}
use Rattle.std.specs.Option.{option_and_then}
use Rattle.std.specs.Ordering.{eq_by_cmp, is_eq, is_lt}
use Rattle.std.specs.Cmp.{IsTotalOrder, eq_by_cmp_equiv}
use Rattle.std.specs.FinMap.{FinMap, IsAntisymmetric, entries, get, values, find, is_sorted, get-entries, entries_sorted}
use Rattle.std.specs.FinMap.Entries.{below_all}
use Rattle.std.specs.List.{AllByRecursion, Contains, flat_map, list_any}
use Rattle.std.specs.List.Sorted.{IsStrictlySortedBy}
use Rattle.std.specs.Map.{lookup, keys_of}
use Rattle.std.proofs.lemmas.Map.Keys.{IsDistinct-from_sorted}
use Rattle.std.proofs.lemmas.Map.Views.{Contains-from_lookup, lookup-from_Contains}
use Rattle.std.proofs.lemmas.List.Concat.{flat_map_single}
use Rattle.std.proofs.lemmas.List.Elements.{Contains-append_left, Contains-append_right, Contains-append_cases, Contains-push, Contains-push_cases}

less : (order : Ordering) → T (is_lt order) → order ≡ Less
less Less p = refl
less Equal p = absurd p
less Greater p = absurd p

equal_from_test : (order : Ordering) → is_eq order ≡ true → order ≡ Equal
equal_from_test Less e = absurd (subst T (sym e) tt)
equal_from_test Equal e = refl
equal_from_test Greater e = absurd (subst T (sym e) tt)

front : (a b : Bool) → T (a && b) → T a
front true b p = tt
front false b p = p

back : (a b : Bool) → T (a && b) → T b
back true b p = p
back false b p = absurd p

no_member : {A : Type 0} {Claim : Type 0} (x : A) → Contains [] x → Claim
no_member x (at, below, is) = absurd (omega (arith, below))

one_member : {A : Type 0} (x y : A) → Contains (y ∷ []) x → y ≡ x
one_member x y has = ⊎_elim (no_member x) (λ same. same) (Contains-push_cases [] y x has)

module _ {A B : Type 0} (f : A → List B) where
  pub joins : (items : List A) (x : A) (y : B) → Contains items x → Contains (f x) y → Contains (flat_map f items) y
  joins [] x y there has = no_member x there
  joins (item ∷ items) x y there has = ⊎_elim
      (λ first. Contains-append_left (f item) (flat_map f items) y (subst (λ z. Contains (f z) y) (sym (one_member x item first)) has))
      (λ later. Contains-append_right (f item) (flat_map f items) y (joins items x y later has))
      (Contains-append_cases (item ∷ []) items x there)

  -- where a member of a joined list comes from
  pub record Origin (items : List A) (y : B) : Type 0 where
    pub item : A
    pub there : Contains items item
    pub has : Contains (f item) y

  pub comes : (items : List A) (y : B) → Contains (flat_map f items) y → Origin items y
  comes [] y has = no_member y has
  comes (item ∷ items) y has = ⊎_elim
      (λ first. record { item = item; there = Contains-append_left (item ∷ []) items item (Contains-push [] item); has = first })
      (λ later. let rest = comes items y later in record {
        item = rest.item;
        there = Contains-append_right (item ∷ []) items rest.item rest.there;
        has = rest.has;
      })
      (Contains-append_cases (f item) (flat_map f items) y has)

-- what is there of two steps
pub record Both {A B : Type 0} (f : A → Option B) (found : Option A) (y : B) : Type 0 where
  pub between : A
  pub first : found ≡ Some between
  pub then : f between ≡ Some y

some_none : {A : Type 0} {Claim : Type 0} (x : A) → None ≡ Some x → Claim
some_none x e = absurd (subst T (sym (ap is_some e)) tt)

pub both : {A B : Type 0} (f : A → Option B) (found : Option A) (y : B) → option_and_then f found ≡ Some y → Both f found y
both f None y e = some_none y e
both f (Some x) y e = record { between = x; first = refl; then = e }

tied : {K : Type 0} {R : K → K → Ordering} → IsAntisymmetric R → (x y : K) → eq_by_cmp R x y ≡ true → x ≡ y
tied {R = R} same x y e = same x y (equal_from_test (R x y) e)

module _ {K X : Type 0} (R : K → K → Ordering) where
  below_rest : (x : K) (es : List (K × X)) → T (below_all R x es) → AllByRecursion (λ y. R x y ≡ Less) (keys_of es)
  below_rest x [] all = tt
  below_rest x (e ∷ es) all = (less (R x e.0) (front _ _ all), below_rest x es (back _ _ all))

  rising : (es : List (K × X)) → T (is_sorted R es) → IsStrictlySortedBy R (keys_of es)
  unfolding IsStrictlySortedBy
  rising [] sorted = tt
  rising (e ∷ es) sorted = (below_rest e.0 es (front _ _ sorted), rising es (back _ _ sorted))

  looked : (q : K) (es : List (K × X)) → lookup (eq_by_cmp R q) es ≡ find R q es
  looked q [] = refl
  looked q (e ∷ es) = ap (cond (eq_by_cmp R q e.0) (Some e.1)) (looked q es)

module _ {K X : Type 0} {R : K → K → Ordering} (o : IsTotalOrder R) (same : IsAntisymmetric R) where
  -- a key with its value is a member of the entries
  pub record Holder (found : FinMap R X) (x : X) : Type 0 where
    pub key : K
    pub is_there : get found key ≡ Some x

  entry_has : (found : FinMap R X) (key : K) (x : X) → get found key ≡ Some x → Contains (entries found) (key, x)
  entry_has found key x is = Contains-from_lookup (tied same) key x (entries found) (looked R key (entries found) ∙ sym (get-entries found key) ∙ is)

  has_entry : (found : FinMap R X) (key : K) (x : X) → Contains (entries found) (key, x) → get found key ≡ Some x
  has_entry found key x has =
      get-entries found key ∙ sym (looked R key (entries found))
      ∙ lookup-from_Contains (eq_by_cmp_equiv o) key x (entries found) (IsDistinct-from_sorted R _ (rising R _ (entries_sorted found))) has

  pub value_there : (found : FinMap R X) (key : K) (x : X) → get found key ≡ Some x → Contains (values found) x
  value_there found key x is =
      subst (λ l. Contains l x) (flat_map_single (λ (e : K × X). e.1) (entries found))
      (joins (λ (e : K × X). e.1 ∷ []) (entries found) (key, x) x (entry_has found key x is) (Contains-push [] x))

  pub holder : (found : FinMap R X) (x : X) → Contains (values found) x → Holder found x
  holder found x has =
      let origin = comes (λ (e : K × X). e.1 ∷ []) (entries found) x
      (subst (λ l. Contains l x) (sym (flat_map_single (λ (e : K × X). e.1) (entries found))) has) in
      let value = one_member x origin.item.1 origin.has in
      record { key = origin.item.0; is_there = has_entry found origin.item.0 x (subst (λ v. Contains (entries found) (origin.item.0, v)) value origin.there) }

-- ---- filters and maps

module _ {A : Type 0} (p : A → Bool) where
  pub filtered : (l : List A) (x : A) → Contains l x → p x ≡ true → Contains (filter p l) x
  filtered [] x there pass = no_member x there
  filtered (first ∷ l) x there pass = ⊎_elim
      (λ here.
      let same = one_member x first here in
      subst (λ (t : Bool). Contains (cond t (first ∷ filter p l) (filter p l)) x) (sym (ap p same ∙ pass)) (0, omega arith, same))
      (λ later. behind (p first) (filtered l x later pass))
      (Contains-append_cases (first ∷ []) l x there)
    where
      behind : (t : Bool) → Contains (filter p l) x → Contains (cond t (first ∷ filter p l) (filter p l)) x
      behind true later = (suc later.0, omega (arith, later.1), later.2)
      behind false later = later

  pub of_filtered : (l : List A) (x : A) → Contains (filter p l) x → Contains l x × (p x ≡ true)
  of_filtered [] x there = no_member x there
  of_filtered (first ∷ l) x there = by (p first) refl there (of_filtered l x)
    where
      behind : Contains l x × (p x ≡ true) → Contains (first ∷ l) x × (p x ≡ true)
      behind (later, pass) = ((suc later.0, omega (arith, later.1), later.2), pass)

      by : (t : Bool) → p first ≡ t → Contains (cond t (first ∷ filter p l) (filter p l)) x → (Contains (filter p l) x → Contains l x × (p x ≡ true))
          → Contains (first ∷ l) x × (p x ≡ true)
      by true e there rest = ⊎_elim
          (λ here. let same = one_member x first here in ((0, omega arith, same), ap p (sym same) ∙ e))
          (λ later. behind (rest later))
          (Contains-append_cases (first ∷ []) (filter p l) x there)
      by false e there rest = behind (rest there)

module _ {A B : Type 0} (f : A → B) where
  pub mapped : (l : List A) (x : A) → Contains l x → Contains (map f l) (f x)
  mapped [] x there = no_member x there
  mapped (first ∷ l) x there = ⊎_elim
      (λ here. (0, omega arith, ap f (one_member x first here)))
      (λ later. let rest = mapped l x later in (suc rest.0, omega (arith, rest.1), rest.2))
      (Contains-append_cases (first ∷ []) l x there)

  pub of_mapped : (l : List A) (y : B) → Contains (map f l) y → (x : A) × Contains l x × (f x ≡ y)
  of_mapped [] y there = no_member y there
  of_mapped (first ∷ l) y there = ⊎_elim
      (λ here. (first, (0, omega arith, refl), one_member y (f first) here))
      (λ later. let rest = of_mapped l y later in (rest.0, (suc rest.1.0, omega (arith, rest.1.1), rest.1.2), rest.2))
      (Contains-append_cases (f first ∷ []) (map f l) y there)

-- ---- tests of some item

pub record Passes {A : Type 0} (p : A → Bool) (l : List A) : Type 0 where
  pub item : A
  pub there : Contains l item
  pub so : p item ≡ true

pub passing : {A : Type 0} (p : A → Bool) (l : List A) → list_any p l ≡ true → Passes p l
passing p [] e = absurd (false≢true e)
passing p (first ∷ l) e = by (p first) refl (passing p l)
  where
    by : (t : Bool) → p first ≡ t → (list_any p l ≡ true → Passes p l) → Passes p (first ∷ l)
    by true is rest = record { item = first; there = (0, omega arith, refl); so = is }
    by false is rest =
        let later = rest (sym (ap (λ (t : Bool). t || list_any p l) is) ∙ e) in
        record { item = later.item; there = (suc later.there.0, omega (arith, later.there.1), later.there.2); so = later.so }

-- a test that comes to nothing but true is true where it has to be so
pub same_test : (a b : Bool) → (a ≡ true → b ≡ true) → (b ≡ true → a ≡ true) → a ≡ b
same_test true b here back = sym (here refl)
same_test false true here back = back refl
same_test false false here back = refl
