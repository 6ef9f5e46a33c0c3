-- No due copy stands twice among them.
use Rattle.std.proofs.Common.{◌≡◌, ◌≢◌, ⊎_elim, ℕ, zero, suc, ◌<◌, Bool, true, false, cond, List, [], ◌∷◌, ◌++◌, length}
use Rattle.std.proofs.Common.{get_or, filter, Contains, refl, sym, ◌∙◌, ap, subst, arith}
use Rattle.std.proofs.lemmas.Bool.{cases_lt}
use Rattle.std.proofs.lemmas.List.{get_or_default, get_or_past}
use Rattle.std.proofs.lemmas.List.Elements.{All-append, All-get_or, Contains-append_cases}
use Rattle.std.proofs.lemmas.List.Kept.{AllPairs-cons, AllPairs-filter, AllPairs-from_increasing}
use Rattle.std.specs.List.{All, AllPairs, flat_map}
use Rattle.std.specs.List.Sorted.{IsStrictlyIncreasing}
use Rattle.oz_repl.specs.declared.repl.view.View.{View}
use Rattle.oz_repl.specs.declared.repl.view.CopyOrder.{CopyOrder}
use Rattle.oz_repl.specs.repl.View.{AreRising, held_at}
use Rattle.oz_repl.specs.repl.Listed.{copies, copies_from, copies_of, copy_to, is_lacking_at, is_source_at, order_of}
use Rattle.oz_repl.proofs.Orders.{in_part, in_three, listed_from, one_copy}

-- ---- lists without the same twice

module _ {A : Type 0} where
  head_apart : (x : A) (l : List A) → AllPairs ◌≢◌ (x ∷ l) → All (λ y. x ≢ y) l
  head_apart x l apart = λ k d lt. apart 0 (suc k) d (omega arith) (omega (arith, lt))

  tail_apart : (x : A) (l : List A) → AllPairs ◌≢◌ (x ∷ l) → AllPairs ◌≢◌ l
  tail_apart x l apart = λ i j d less lt. apart (suc i) (suc j) d (omega (arith, less)) (omega (arith, lt))

  none_apart : AllPairs {X = A} ◌≢◌ []
  none_apart = λ i j d less lt. absurd (omega (arith, lt))

  one_apart : (x : A) → AllPairs ◌≢◌ (x ∷ [])
  one_apart x = λ i j d less lt. absurd (omega (arith, less, lt))

  append_apart : (xs ys : List A) → AllPairs ◌≢◌ xs → AllPairs ◌≢◌ ys → ((x : A) → Contains xs x → Contains ys x → ⊥) → AllPairs ◌≢◌ (xs ++ ys)
  append_apart [] ys one other cross = other
  append_apart (x ∷ xs) ys one other cross =
      AllPairs-cons ◌≢◌ x (xs ++ ys)
      (All-append (λ y. x ≢ y) xs ys (head_apart x xs one) (λ k d lt same. cross x (zero, omega arith, refl) (k, lt, get_or_default ys k x d lt ∙ sym same)))
      (append_apart xs ys (tail_apart x xs one) other (λ y (k, lt, is) there. cross y (suc k, omega (arith, lt), is) there))

  three_apart : (f : ℕ → List A) → ((n : ℕ) → AllPairs ◌≢◌ (f n))
      → ((m n : ℕ) (x : A) → m < n → n < 3 → Contains (f m) x → Contains (f n) x → ⊥) → AllPairs ◌≢◌ (f 0 ++ f 1 ++ f 2)
  three_apart f each cross =
      append_apart (f 0 ++ f 1) (f 2)
      (append_apart (f 0) (f 1) (each 0) (each 1) (λ x one other. cross 0 1 x (omega arith) (omega arith) one other))
      (each 2)
      (λ x front last. ⊎_elim
      (λ one. cross 0 2 x (omega arith) (omega arith) one last)
      (λ other. cross 1 2 x (omega arith) (omega arith) other last)
      (Contains-append_cases (f 0) (f 1) x front))

flat_apart : {A : Type 0} (f : ℕ → List A) (l : List ℕ) → AllPairs ◌≢◌ l → ((n : ℕ) → AllPairs ◌≢◌ (f n))
    → ((m n : ℕ) (x : A) → m ≢ n → Contains (f m) x → Contains (f n) x → ⊥)
    → AllPairs ◌≢◌ (flat_map f l)
flat_apart f [] apart each cross = none_apart
flat_apart f (y ∷ l) apart each cross =
    append_apart (f y) (flat_map f l) (each y) (flat_apart f l (tail_apart y l apart) each cross)
    (λ x here later.
    let part = in_part f l x later in
    cross y part.item x (λ same. head_apart y l apart part.there.0 part.item part.there.1 (same ∙ sym part.there.2)) here part.has)

-- ---- rising local ids

rising_apart : (l : List ℕ) → IsStrictlyIncreasing l → AllPairs ◌≢◌ l
rising_apart l rises = λ i j d less lt same. let below = AllPairs-from_increasing l rises i j d less lt in omega (arith, below, same)

held_rises : (view : View) → AreRising view → (place : ℕ) → IsStrictlyIncreasing (held_at view place)
held_rises view rising place = ⊎_elim
    (λ lt. All-get_or IsStrictlyIncreasing view.held place [] lt rising.held)
    (λ past. subst IsStrictlyIncreasing (sym (get_or_past view.held place [] past)) (λ k lt. absurd (omega (arith, lt))))
    (cases_lt place (length view.held))

-- ---- the copies

module _ (view : View) (rising : AreRising view) (three : length view.members ≡ 3) (apart : AllPairs ◌≢◌ view.members) where
  other_member : (m n : ℕ) → m < n → n < 3 → get_or view.members m 0 ≡ get_or view.members n 0 → ⊥
  other_member m n less lt same = apart m n 0 less (omega (arith, lt, three)) same

  copy_apart : (from local to : ℕ) → AllPairs ◌≢◌ (copy_to view from local to)
  copy_apart from local to = by (is_lacking_at view local to)
    where
      by : (t : Bool) → AllPairs ◌≢◌ (cond t (order_of view from local to ∷ []) [])
      by true = one_apart (order_of view from local to)
      by false = none_apart

  of_apart : (from local : ℕ) → AllPairs ◌≢◌ (copies_of view from local)
  of_apart from local =
      three_apart (copy_to view from local) (copy_apart from local)
      (λ m n order less lt one other.
      let a = (one_copy view from local m order one).1 in
      let b = (one_copy view from local n order other).1 in
      other_member m n less lt (ap (λ (o : CopyOrder). o.target) (a ∙ sym b)))

  its_local : (from local : ℕ) (order : CopyOrder) → Contains (copies_of view from local) order → order.local ≡ local
  its_local from local order among =
      let to = in_three (copy_to view from local) order among in
      sym (ap (λ (o : CopyOrder). o.local) (one_copy view from local to.place order to.has).1)

  from_apart : (from : ℕ) → AllPairs ◌≢◌ (copies_from view from)
  unfolding copies_from
  from_apart from =
      flat_apart (copies_of view from) (filter (λ local. is_source_at view local from) (held_at view from))
      (AllPairs-filter ◌≢◌ (λ local. is_source_at view local from) (held_at view from) (rising_apart (held_at view from) (held_rises view rising from)))
      (of_apart from)
      (λ one other order differ a b. differ (sym (its_local from one order a) ∙ its_local from other order b))

  pub copies_apart : AllPairs ◌≢◌ (copies view)
  copies_apart =
      three_apart (copies_from view) from_apart
      (λ m n order less lt one other.
      let a = listed_from view m order one in
      let b = listed_from view n order other in
      other_member m n less lt (ap (λ (o : CopyOrder). o.source) (a.is ∙ sym b.is)))

  pub all_apart : (copied : Bool) → AllPairs ◌≢◌ (cond copied (copies view) [])
  all_apart true = copies_apart
  all_apart false = none_apart
