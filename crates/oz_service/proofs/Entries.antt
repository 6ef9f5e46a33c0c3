-- Entries of a map from numbers, and lists that tests and functions make of others.
use Rattle.std.proofs.Common.{◌≡◌, ⊎_elim, ℕ, suc, ◌==◌, Bool, true, false, ◌&&◌, List, [], ◌∷◌, ◌++◌, length, filter, filter_map, get_or, cond}
use Rattle.std.proofs.Common.{Option, None, Some, IfSome, All, Contains, T, refl, sym, ◌∙◌, ap, subst, append-nil, append_assoc, arith}
use Rattle.std.proofs.lemmas.Bool.{eqb-true}
use Rattle.std.proofs.lemmas.Cmp.{nat_cmp_total}
use Rattle.std.proofs.lemmas.List.Elements.{All-cons, All-nil, All-push, Contains-get_or}
use Rattle.std.proofs.lemmas.Map.Keys.{IsDistinct-from_sorted}
use Rattle.std.proofs.lemmas.Map.Views.{Contains-from_lookup, lookup-from_Contains}
use Rattle.std.specs.declared.cmp.Ordering.{Ordering}
use Rattle.std.specs.declared.cmp.Ordering.TheVariants.{Less, Equal, Greater}
use Rattle.std.specs.Cmp.{eq_by_cmp_equiv, unsigned_ties}
use Rattle.std.specs.FinMap.{FinMap, entries, entries_sorted, find, get, get-entries, is_sorted}
use Rattle.std.specs.FinMap.Entries.{below_all}
use Rattle.std.specs.List.{AllByRecursion, cons_option}
use Rattle.std.specs.List.Sorted.{IsStrictlySortedBy}
use Rattle.std.specs.Map.{keys_of, lookup}
use Rattle.std.specs.Option.{option_to_list}
use Rattle.std.specs.Ordering.{eq_by_cmp, is_lt, nat_cmp}
use Rattle.oz_kept.specs.laws.Deleted.{first_or_later}
use Rattle.oz_kept.specs.laws.Reached.{in_none}

-- ---- an entry of a map is what its number has

front : (a b : Bool) → T (a && b) → T a
front true b both = tt
front false b both = both

back : (a b : Bool) → T (a && b) → T b
back true b both = both
back false b both = absurd both

is_less : (order : Ordering) → T (is_lt order) → order ≡ Less
is_less Less so = refl
is_less Equal so = absurd so
is_less Greater so = absurd so

same_key : (q k : ℕ) → eq_by_cmp nat_cmp q k ≡ true → q ≡ k
same_key q k is = eqb-true q k (unsigned_ties q k ∙ is)

module _ {X : Type 0} where
  below_rest : (number : ℕ) (es : List (ℕ × X)) → T (below_all nat_cmp number es) → AllByRecursion (λ (y : ℕ). nat_cmp number y ≡ Less) (keys_of es)
  below_rest number [] all = tt
  below_rest number (e ∷ es) all = (is_less (nat_cmp number e.0) (front _ _ all), below_rest number es (back _ _ all))

  rising : (es : List (ℕ × X)) → T (is_sorted nat_cmp es) → IsStrictlySortedBy nat_cmp (keys_of es)
  unfolding IsStrictlySortedBy
  rising [] sorted = tt
  rising (e ∷ es) sorted = (below_rest e.0 es (front _ _ sorted), rising es (back _ _ sorted))

  looked : (number : ℕ) (es : List (ℕ × X)) → lookup (eq_by_cmp nat_cmp number) es ≡ find nat_cmp number es
  looked number [] = refl
  looked number (e ∷ es) = ap (cond (eq_by_cmp nat_cmp number e.0) (Some e.1)) (looked number es)

  pub entry_is : (map : FinMap nat_cmp X) (number : ℕ) (its : X) → Contains (entries map) (number, its) → get map number ≡ Some its
  entry_is map number its among =
      get-entries map number ∙ sym (looked number (entries map))
      ∙ lookup-from_Contains (eq_by_cmp_equiv nat_cmp_total) number its (entries map)
      (IsDistinct-from_sorted nat_cmp (keys_of (entries map)) (rising (entries map) (entries_sorted map))) among

  pub entry_there : (map : FinMap nat_cmp X) (number : ℕ) (its : X) → get map number ≡ Some its → Contains (entries map) (number, its)
  entry_there map number its there =
      Contains-from_lookup same_key number its (entries map) (looked number (entries map) ∙ sym (get-entries map number) ∙ there)

-- ---- lists

pub each_of : {A : Type 0} (P : A → Type 0) (l : List A) → ((x : A) → Contains l x → P x) → All P l
each_of P l each k d within = each (get_or l k d) (Contains-get_or l k d within)

cons_there : {A : Type 0} (first x : A) (l : List A) → Contains l x → Contains (first ∷ l) x
cons_there first x l (k, within, is) = (suc k, omega (arith, within), is)

pub none_passes : (p : ℕ → Bool) (l : List ℕ) → filter p l ≡ [] → (x : ℕ) → Contains l x → p x ≡ false
none_passes p [] none x among = absurd (in_none x among)
none_passes p (y ∷ l) none x among = by (p y) refl (λ rest. none_passes p l rest x)
  where
    kept : (t : Bool) → p y ≡ t → cond t (y ∷ filter p l) (filter p l) ≡ []
    kept t is = ap (λ (b : Bool). cond b (y ∷ filter p l) (filter p l)) (sym is) ∙ none

    by : (t : Bool) → p y ≡ t → (filter p l ≡ [] → Contains l x → p x ≡ false) → p x ≡ false
    by true is later = let no = kept true is in absurd cc
    by false is later = ⊎_elim (λ same. ap p (sym same) ∙ is) (later (kept false is)) (first_or_later y x l among)

module _ {A B : Type 0} (h : A → Option B) where
  pub none_given : (l : List A) → filter_map h l ≡ [] → (x : A) → Contains l x → h x ≡ None
  none_given [] none x among = absurd (in_none x among)
  none_given (y ∷ l) none x among = by (h y) refl (λ rest. none_given l rest x)
    where
      kept : (o : Option B) → h y ≡ o → cons_option o (filter_map h l) ≡ []
      kept o is = ap (λ (found : Option B). cons_option found (filter_map h l)) (sym is) ∙ none

      by : (o : Option B) → h y ≡ o → (filter_map h l ≡ [] → Contains l x → h x ≡ None) → h x ≡ None
      by (Some found) is later = let no = kept (Some found) is in absurd cc
      by None is later = ⊎_elim (λ same. ap h (sym same) ∙ is) (later (kept None is)) (first_or_later y x l among)

  pub each_given : (P : B → Type 0) (l : List A) → ((x : A) → Contains l x → (y : B) → h x ≡ Some y → P y) → All P (filter_map h l)
  each_given P [] each = All-nil P
  each_given P (x ∷ l) each = by (h x) refl (each_given P l (λ z there. each z (cons_there x z l there)))
    where
      by : (o : Option B) → h x ≡ o → All P (filter_map h l) → All P (cons_option o (filter_map h l))
      by (Some y) is rest = All-cons P y (filter_map h l) (each x (0, omega arith, refl) y is) rest
      by None is rest = rest

  -- one more item was read, and what is made of it stands at the end
  pub given_more : (before now all : List B) (x : A) (rest left : List A) (found : Option B) → left ≡ x ∷ rest → found ≡ h x
      → now ≡ before ++ option_to_list found → before ++ filter_map h left ≡ all → now ++ filter_map h rest ≡ all
  given_more before now all x rest left found is made put so =
      ap (λ (l : List B). l ++ filter_map h rest) (put ∙ ap (λ (o : Option B). before ++ option_to_list o) made)
      ∙ (joined (h x) ∙ (ap (λ (l : List A). before ++ filter_map h l) (sym is) ∙ so))
    where
      joined : (o : Option B) → (before ++ option_to_list o) ++ filter_map h rest ≡ before ++ cons_option o (filter_map h rest)
      joined None = append_assoc before [] (filter_map h rest)
      joined (Some y) = append_assoc before (y ∷ []) (filter_map h rest)

pub all_more : {B : Type 0} (P : B → Type 0) (before now : List B) (found : Option B) → All P before → IfSome found P → now ≡ before ++ option_to_list found → All P now
all_more P before now None all holds put = subst (All P) (sym (put ∙ append-nil before)) all
all_more P before now (Some y) all holds put = subst (All P) (sym put) (All-push P before y all holds)

pub no_items : {A : Type 0} (l : List A) (count : ℕ) (empty : Bool) → count ≡ length l → empty ≡ (count == 0) → empty ≡ true → l ≡ []
no_items [] count empty is says so = refl
no_items (x ∷ l) count empty is says so = absurd (omega (arith, is, eqb-true count 0 (sym says ∙ so)))
