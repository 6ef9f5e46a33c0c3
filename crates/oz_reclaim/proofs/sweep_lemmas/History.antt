-- Notes index by index, and lists.
use Rattle.std.proofs.Common.{◌≡◌, ◌⊎◌, inl, inr, ⊎_elim, ℕ, zero, suc, ◌<◌, ◌≤◌, ◌==◌, nat_le, Bool, true, false, List, [], ◌∷◌, ◌++◌, filter, cond, Contains, refl, sym, ◌∙◌, ap, subst, arith}
use mathlib.Core.Bool.{false≢true}
use Rattle.std.proofs.lemmas.Bool.Decides.{nat_tests}
use Rattle.oz_reclaim.specs.declared.sweep.births.Birth.{Birth}
use Rattle.oz_reclaim.specs.declared.sweep.notes.Note.{Note}
use Rattle.oz_reclaim.specs.sweep.Dates.{Dates, births, births_from, born_after}
use Rattle.oz_reclaim.specs.sweep.History.{IndexesRise, notes_at}
use Rattle.oz_reclaim.specs.sweep.Notes.{up_to}
use Rattle.std.specs.Prelude.{Option, None}

pub above : (n m : ℕ) → m < n → nat_le n m ≡ false
above n m e = grind (arith, nat_tests, e)

pub not_above : (n m : ℕ) → n ≤ m → nat_le n m ≡ true
not_above n m e = grind (arith, nat_tests, e)

pub is_under : (n m : ℕ) → nat_le n m ≡ true → n ≤ m
is_under n m e = grind (arith, nat_tests, e)

pub is_over : (n m : ℕ) → nat_le n m ≡ false → m < n
is_over n m e = grind (arith, nat_tests, e)

pub equal_is : (n m : ℕ) → (n == m) ≡ true → n ≡ m
equal_is n m e = grind (arith, nat_tests, e)

pub is_equal : (n m : ℕ) → n ≡ m → (n == m) ≡ true
is_equal n m e = grind (arith, nat_tests, e)

pub not_equal : (n m : ℕ) → n < m → (n == m) ≡ false
not_equal n m e = grind (arith, nat_tests, e)

over_equal : (n m : ℕ) → m < n → (n == m) ≡ false
over_equal n m e = grind (arith, nat_tests, e)

-- a number that is not below another is that one, or above it
pub level_or_above : (i j : ℕ) → i ≤ j → (j ≡ i) ⊎ (suc i ≤ j)
level_or_above i j le = by (nat_le j i) refl
  where
    by : (t : Bool) → nat_le j i ≡ t → (j ≡ i) ⊎ (suc i ≤ j)
    by true e = let under = is_under j i e in inl (omega (arith, under, le))
    by false e = let over = is_over j i e in inr (omega (arith, over))

-- ---- what a list has

pub first_in : {A : Type 0} (x : A) (l : List A) → Contains (x ∷ l) x
first_in x l = (zero, omega arith, refl)

pub behind_in : {A : Type 0} (x y : A) (l : List A) → Contains l x → Contains (y ∷ l) x
behind_in x y l (at, within, is) = (suc at, omega (arith, within), is)

pub in_cases : {A : Type 0} (x y : A) (l : List A) → Contains (y ∷ l) x → (y ≡ x) ⊎ Contains l x
in_cases x y l (zero, within, is) = inl is
in_cases x y l (suc at, within, is) = inr (at, omega (arith, within), is)

pub none_in : {A : Type 0} (x : A) → Contains [] x → ⊥
none_in x there = absurd (omega (arith, there.1))

module _ (p : Note → Bool) where
  pub in_filter : (l : List Note) (x : Note) → Contains l x → p x ≡ true → Contains (filter p l) x
  in_filter [] x there e = absurd (none_in x there)
  in_filter (y ∷ l) x there e = by (p y) refl (in_cases x y l there) (λ later. in_filter l x later e)
    where
      by : (t : Bool) → p y ≡ t → (y ≡ x) ⊎ Contains l x → (Contains l x → Contains (filter p l) x) → Contains (cond t (y ∷ filter p l) (filter p l)) x
      by true f (inl same) later = subst (Contains (y ∷ filter p l)) same (first_in y (filter p l))
      by true f (inr there) later = behind_in x y (filter p l) (later there)
      by false f (inl same) later = absurd (false≢true (sym f ∙ ap p same ∙ e))
      by false f (inr there) later = later there

  pub of_filter : (l : List Note) (x : Note) → Contains (filter p l) x → Contains l x × (p x ≡ true)
  of_filter [] x there = absurd (none_in x there)
  of_filter (y ∷ l) x there = by (p y) refl there (of_filter l x)
    where
      by : (t : Bool) → p y ≡ t → Contains (cond t (y ∷ filter p l) (filter p l)) x → (Contains (filter p l) x → Contains l x × (p x ≡ true)) → Contains (y ∷ l) x × (p x ≡ true)
      by true f there later = ⊎_elim
          (λ same. (subst (Contains (y ∷ l)) same (first_in y l), ap p (sym same) ∙ f))
          (λ rest. let found = later rest in (behind_in x y l found.0, found.1))
          (in_cases x y (filter p l) there)
      by false f there later = let found = later there in (behind_in x y l found.0, found.1)

pub at_index : (index : ℕ) (notes : List Note) (note : Note) → Contains (notes_at index notes) note → Contains notes note × (note.index ≡ index)
at_index index notes note there =
    let found = of_filter (λ (n : Note). n.index == index) notes note there in
    (found.0, equal_is note.index index found.1)

pub at_up_to : (index upto : ℕ) (notes : List Note) (note : Note) → index ≤ upto → Contains (notes_at index notes) note → Contains (up_to upto notes) note
at_up_to index upto notes note le there =
    let found = at_index index notes note there in
    in_filter (λ (n : Note). nat_le n.index upto) notes note found.0 (not_above note.index upto (subst (λ (n : ℕ). n ≤ upto) (sym found.1) le))

pub up_to_at : (upto : ℕ) (notes : List Note) (note : Note) → Contains (up_to upto notes) note → Contains (notes_at note.index notes) note × (note.index ≤ upto)
up_to_at upto notes note there =
    let found = of_filter (λ (n : Note). nat_le n.index upto) notes note there in
    (in_filter (λ (n : Note). n.index == note.index) notes note found.0 (is_equal note.index note.index refl), is_under note.index upto found.1)

pub index_from : (least : ℕ) (notes : List Note) (note : Note) → IndexesRise least notes → Contains notes note → least ≤ note.index
index_from least [] note rise there = absurd (none_in note there)
index_from least (x ∷ notes) note rise there = ⊎_elim
    (λ same. subst (λ (n : Note). least ≤ n.index) same rise.0)
    (λ later. let under = index_from x.index notes note rise.1 later in omega (arith, under, rise.0))
    (in_cases note x notes there)

-- ---- the notes up to an index, and those of the next

pub none_up_to : (j n : ℕ) (notes : List Note) → IndexesRise n notes → j < n → up_to j notes ≡ []
none_up_to j n [] rise lt = refl
none_up_to j n (x ∷ notes) rise lt =
    let over : j < x.index = omega (arith, lt, rise.0) in
    ap (λ (t : Bool). cond t (x ∷ up_to j notes) (up_to j notes)) (above x.index j over) ∙ none_up_to j x.index notes rise.1 over

next_only : (j n : ℕ) (notes : List Note) → IndexesRise n notes → j < n → up_to (suc j) notes ≡ notes_at (suc j) notes
next_only j n [] rise lt = refl
next_only j n (x ∷ notes) rise lt = by (nat_le x.index (suc j)) refl (next_only j x.index notes rise.1 over)
  where
    over : j < x.index
    over = omega (arith, lt, rise.0)

    by : (t : Bool) → nat_le x.index (suc j) ≡ t → up_to (suc j) notes ≡ notes_at (suc j) notes
        → cond (nat_le x.index (suc j)) (x ∷ up_to (suc j) notes) (up_to (suc j) notes) ≡ cond (x.index == suc j) (x ∷ notes_at (suc j) notes) (notes_at (suc j) notes)
    by true e later =
        let under = is_under x.index (suc j) e in
        let here : (x.index == suc j) ≡ true = is_equal x.index (suc j) (omega (arith, under, over)) in
        ap (λ (t : Bool). cond t (x ∷ up_to (suc j) notes) (up_to (suc j) notes)) e
        ∙ ap (λ (l : List Note). x ∷ l) later
        ∙ sym (ap (λ (t : Bool). cond t (x ∷ notes_at (suc j) notes) (notes_at (suc j) notes)) here)
    by false e later =
        let past = is_over x.index (suc j) e in
        ap (λ (t : Bool). cond t (x ∷ up_to (suc j) notes) (up_to (suc j) notes)) e
        ∙ later
        ∙ sym (ap (λ (t : Bool). cond t (x ∷ notes_at (suc j) notes) (notes_at (suc j) notes)) (over_equal x.index (suc j) past))

pub split : (j n : ℕ) (notes : List Note) → IndexesRise n notes → up_to (suc j) notes ≡ up_to j notes ++ notes_at (suc j) notes
split j n [] rise = refl
split j n (x ∷ notes) rise = by (nat_le x.index j) refl (split j x.index notes rise.1)
  where
    by : (t : Bool) → nat_le x.index j ≡ t → up_to (suc j) notes ≡ up_to j notes ++ notes_at (suc j) notes → up_to (suc j) (x ∷ notes) ≡ cond (nat_le x.index j) (x ∷ up_to j notes) (up_to j notes) ++ notes_at (suc j) (x ∷ notes)
    by true e later =
        let under = is_under x.index j e in
        ap (λ (t : Bool). cond t (x ∷ up_to (suc j) notes) (up_to (suc j) notes)) (not_above x.index (suc j) (omega (arith, under)))
        ∙ ap (λ (l : List Note). x ∷ l) later
        ∙ ap (λ (l : List Note). x ∷ (up_to j notes ++ l)) (sym (ap (λ (t : Bool). cond t (x ∷ notes_at (suc j) notes) (notes_at (suc j) notes)) (not_equal x.index (suc j) (omega (arith, under)))))
        ∙ ap (λ (t : Bool). cond t (x ∷ up_to j notes) (up_to j notes) ++ notes_at (suc j) (x ∷ notes)) (sym e)
    by false e later =
        let over = is_over x.index j e in
        let rising : IndexesRise x.index (x ∷ notes) = (omega arith, rise.1) in
        next_only j x.index (x ∷ notes) rising over
        ∙ ap (λ (l : List Note). l ++ notes_at (suc j) (x ∷ notes)) (sym (none_up_to j x.index notes rise.1 over))
        ∙ ap (λ (t : Bool). cond t (x ∷ up_to j notes) (up_to j notes) ++ notes_at (suc j) (x ∷ notes)) (sym e)

from_both : (dates : Dates) (local : ℕ) (before : Option Birth) (a b : List Note) → births_from dates local before (a ++ b) ≡ births_from dates local (births_from dates local before a) b
from_both dates local before [] b = refl
from_both dates local before (x ∷ a) b = from_both dates local (born_after dates local before x) a b

pub births_split : (dates : Dates) (local j n : ℕ) (notes : List Note) → IndexesRise n notes
    → births dates (up_to (suc j) notes) local ≡ births_from dates local (births dates (up_to j notes) local) (notes_at (suc j) notes)
births_split dates local j n notes rise = ap (λ (l : List Note). births dates l local) (split j n notes rise) ∙ from_both dates local None (up_to j notes) (notes_at (suc j) notes)
