-- Lists that rise, and what is among them.
use Rattle.std.proofs.Common.{◌≡◌, ◌≢◌, suc, Bool, true, false, ◌||◌, ◌&&◌, T, List, [], ◌∷◌, map, length, refl, sym, ◌∙◌, ap, subst, arith}
use mathlib.Core.Bool.{false≢true}
use Rattle.std.specs.List.{AllByRecursion, list_any}
use Rattle.std.specs.Ordering.{is_eq, is_lt, eq_by_cmp, ordering_reverse}
use Rattle.std.specs.declared.cmp.Ordering.{Ordering}
use Rattle.std.specs.declared.cmp.Ordering.TheVariants.{Less, Equal, Greater}
use Rattle.std.specs.Cmp.{IsTotalOrder}
use Rattle.std.proofs.lemmas.Cmp.{tied_itself}
use Rattle.std.specs.FinMap.{FinMap, IsAntisymmetric, keys, entries, entries_sorted, len, len-entries, is_sorted}
use Rattle.std.specs.FinMap.Entries.{below_all}
use Rattle.oz_rows.specs.Counts.{AllDiffer}
use Rattle.oz_rows.specs.laws.Order.{equal_from_test}
use Rattle.oz_rows.specs.laws.Lengths.{no_longer}

pub each_in_turn : {A : Type 0} (P Q : A → Type 0) → ((a : A) → P a → Q a) → (l : List A) → AllByRecursion P l → AllByRecursion Q l
each_in_turn P Q f [] all = tt
each_in_turn P Q f (a ∷ l) all = (f a all.0, each_in_turn P Q f l all.1)

module _ {K : Type 0} (R : K → K → Ordering) (o : IsTotalOrder R) (one : IsAntisymmetric R) where
  -- each is below those behind it
  abbrev pub Rises : List K → Type 0
  Rises [] = Unit {0}
  Rises (x ∷ l) = AllByRecursion (λ y. R x y ≡ Less) l × Rises l

  abbrev pub among : K → List K → Bool
  among q l = list_any (eq_by_cmp R q) l

  itself : (x : K) → eq_by_cmp R x x ≡ true
  itself x = ap is_eq (tied_itself o x)

  pub same_is : (x y : K) → eq_by_cmp R x y ≡ true → x ≡ y
  same_is x y e = one x y (equal_from_test _ e)

  apart : (x y : K) → R x y ≡ Less → x ≢ y
  apart x y below e = false≢true (sym (ap is_eq below) ∙ ap (λ z. is_eq (R x z)) (sym e) ∙ itself x)

  pub differ : (l : List K) → Rises l → AllDiffer l
  differ [] rise = tt
  differ (x ∷ l) rise = (each_in_turn _ _ (λ y below. apart x y below) l rise.0, differ l rise.1)

  pub among_head : (x : K) (l : List K) → among x (x ∷ l) ≡ true
  among_head x l = ap (λ (t : Bool). t || among x l) (itself x)

  pub among_cases : {Q : Type 0} (q x : K) (l : List K) → among q (x ∷ l) ≡ true → (q ≡ x → Q) → (among q l ≡ true → Q) → Q
  among_cases {Q} q x l e here later = by_test (eq_by_cmp R q x) refl
    where
      by_test : (t : Bool) → eq_by_cmp R q x ≡ t → Q
      by_test true is = here (same_is q x is)
      by_test false is = later (subst (λ (t : Bool). t || among q l ≡ true) is e)

  pub among_later : (q x : K) (l : List K) → among q l ≡ true → among q (x ∷ l) ≡ true
  among_later q x l e = by_test (eq_by_cmp R q x)
    where
      by_test : (t : Bool) → t || among q l ≡ true
      by_test true = refl
      by_test false = e

  -- each of a list is among it
  pub each_among : (l : List K) → AllByRecursion (λ x. among x l ≡ true) l
  each_among [] = tt
  each_among (x ∷ l) = (among_head x l, each_in_turn _ _ (λ y e. among_later y x l e) l (each_among l))

  below_those : (x q : K) (l : List K) → AllByRecursion (λ y. R x y ≡ Less) l → among q l ≡ true → R x q ≡ Less
  below_those x q [] all e = absurd (false≢true e)
  below_those x q (y ∷ l) all e = among_cases q y l e (λ same. ap (R x) same ∙ all.0) (below_those x q l all.1)

  not_both : (x y : K) → R x y ≡ Less → R y x ≡ Less → ⊥
  not_both x y here there = false≢true (sym (ap is_lt (o.antisymm x y ∙ ap ordering_reverse there)) ∙ ap is_lt here)

  -- rising lists that have the same are one
  pub same_rising : (a b : List K) → Rises a → Rises b → ((q : K) → among q a ≡ true → among q b ≡ true) → ((q : K) → among q b ≡ true → among q a ≡ true)
      → a ≡ b
  same_rising [] [] rise_a rise_b to from = refl
  same_rising [] (y ∷ b) rise_a rise_b to from = absurd (false≢true (from y (among_head y b)))
  same_rising (x ∷ a) [] rise_a rise_b to from = absurd (false≢true (to x (among_head x a)))
  same_rising (x ∷ a) (y ∷ b) rise_a rise_b to from = both (same_rising a b rise_a.1 rise_b.1 to_rest from_rest)
    where
      first : x ≡ y
      first = among_cases x y b (to x (among_head x a)) (λ e. e)
          (λ in_b. among_cases y x a (from y (among_head y b)) sym
          (λ in_a. absurd (not_both x y (below_those x y a rise_a.0 in_a) (below_those y x b rise_b.0 in_b))))

      to_rest : (q : K) → among q a ≡ true → among q b ≡ true
      to_rest q e = among_cases q y b (to q (among_later q x a e)) (λ same. absurd (apart x q (below_those x q a rise_a.0 e) (first ∙ sym same))) (λ in_b. in_b)

      from_rest : (q : K) → among q b ≡ true → among q a ≡ true
      from_rest q e = among_cases q x a (from q (among_later q y b e)) (λ same. absurd (apart y q (below_those y q b rise_b.0 e) (sym first ∙ sym same)))
          (λ in_a. in_a)

      both : a ≡ b → x ∷ a ≡ y ∷ b
      both others = λ i. first i ∷ others i

  -- lists without repetitions that have the same are of one length
  pub same_size : (a b : List K) → AllDiffer a → AllDiffer b → AllByRecursion (λ x. among x b ≡ true) a → AllByRecursion (λ x. among x a ≡ true) b
      → length a ≡ length b
  same_size a b differ_a differ_b to from =
      let up = no_longer (eq_by_cmp R) same_is a b differ_a to in
      let down = no_longer (eq_by_cmp R) same_is b a differ_b from in
      omega (arith, up, down)

  first_of_both : (a b : Bool) → T (a && b) → T a
  first_of_both true b p = tt
  first_of_both false b p = p

  second_of_both : (a b : Bool) → T (a && b) → T b
  second_of_both true b p = p
  second_of_both false b p = absurd p

  less : (r : Ordering) → T (is_lt r) → r ≡ Less
  less Less p = refl
  less Equal p = absurd p
  less Greater p = absurd p

  module _ {X : Type 0} where
    keys_over : (x : K) (es : List (K × X)) → T (below_all R x es) → AllByRecursion (λ y. R x y ≡ Less) (map (λ (e : K × X). e.0) es)
    keys_over x [] h = tt
    keys_over x (e ∷ es) h = (less _ (first_of_both _ _ h), keys_over x es (second_of_both _ _ h))

    entries_rise : (es : List (K × X)) → T (is_sorted R es) → Rises (map (λ (e : K × X). e.0) es)
    entries_rise [] h = tt
    entries_rise (e ∷ es) h = (keys_over e.0 es (first_of_both _ _ h), entries_rise es (second_of_both _ _ h))

    pub keys_rise : (m : FinMap R X) → Rises (keys m)
    keys_rise m = entries_rise (entries m) (entries_sorted m)

    size_of : (es : List (K × X)) → length es ≡ length (map (λ (e : K × X). e.0) es)
    size_of [] = refl
    size_of (e ∷ es) = ap suc (size_of es)

    pub len_keys : (m : FinMap R X) → len m ≡ length (keys m)
    len_keys m = len-entries m ∙ size_of (entries m)
