-- A walk from key to key finds all keys between two.
use Rattle.std.proofs.Common.{
  ◌≡◌,
  ◌<◌,
  ◌≤◌,
  ◌-◌,
  ℕ,
  suc,
  Bool,
  true,
  false,
  ◌||◌,
  List,
  [],
  ◌∷◌,
  ◌++◌,
  length,
  None,
  is_some,
  refl,
  sym,
  ◌∙◌,
  ap,
  subst,
  arith,
  inl,
  inr,
  ◌⊎◌,
  append-nil,
  append_assoc,
  get_or,
  ◌+◌,
}
use mathlib.Core.Bool.{false≢true}
use Rattle.std.specs.List.{AllByRecursion, list_any}
use Rattle.std.specs.Ordering.{is_eq, is_gt}
use Rattle.std.specs.declared.cmp.Ordering.{Ordering}
use Rattle.std.specs.declared.cmp.Ordering.TheVariants.{Less, Equal, Greater}
use Rattle.oz_rows.specs.declared.key.RowKey.{RowKey}
use Rattle.oz_rows.specs.declared.row.Row.{Row}
use Rattle.oz_rows.specs.Order.{key_order}
use Rattle.oz_rows.specs.Rows.{kind_of}
use Rattle.oz_rows.specs.Counts.{IsBetween, AllRise, AreKeys, IsCount}
use Rattle.oz_rows.specs.RowMaps.{Rows, IsBelow, IsAbove, IsNext, is_same}
use Rattle.oz_rows.specs.laws.Order.{key_order_total, itself, above_below, kinds_rise}
use Rattle.oz_rows.specs.laws.Same.{same_is_one}
use Rattle.oz_decision.specs.Walking.{last_or, IsStep}

not_itself : (a : RowKey) → IsBelow a a → ⊥
not_itself a below = false≢true (sym (ap is_eq below) ∙ ap is_eq (itself a))

one_key : (a b : RowKey) → key_order a b ≡ Equal → a ≡ b
one_key a b e = same_is_one a b (ap is_eq e)

-- what holds of all keys and of the one before them holds of the last
last_has : (P : RowKey → Type 0) (d : RowKey) (l : List RowKey) → P d → AllByRecursion P l → P (last_or d l)
last_has P d [] p all = p
last_has P d (x ∷ l) p all = last_has P x l all.0 all.1

all_before : {A : Type 0} (P : A → Type 0) (l m : List A) → AllByRecursion P (l ++ m) → AllByRecursion P l
all_before P [] m all = tt
all_before P (x ∷ l) m all = (all.0, all_before P l m all.1)

all_at : {A : Type 0} (P : A → Type 0) (l m : List A) (x : A) → AllByRecursion P (l ++ x ∷ m) → P x
all_at P [] m x all = all.0
all_at P (y ∷ l) m x all = all_at P l m x all.1

-- the last of rising keys is below the one behind them
last_under : (d x : RowKey) (l m : List RowKey) → IsBelow d x → AllRise (l ++ x ∷ m) → IsBelow (last_or d l) x
last_under d x [] m below rises = below
last_under d x (y ∷ l) m below rises = last_under y x l m (all_at (λ other. IsBelow y other) l m x rises.0) rises.1

not_before_head : (y : RowKey) (l : List RowKey) → AllRise (y ∷ l) → IsBelow (last_or y l) y → ⊥
not_before_head y [] rises below = not_itself y below
not_before_head y (z ∷ l) rises below = not_itself y (key_order_total.trans y (last_or z l) y (last_has (λ k. IsBelow y k) z l rises.0.0 rises.0.1) below)

front_rises : (l m : List RowKey) → AllRise (l ++ m) → AllRise l
front_rises [] m rises = tt
front_rises (x ∷ l) m rises = (all_before (λ other. IsBelow x other) l m rises.0, front_rises l m rises.1)

-- a key of the list is not above its last
last_greatest : (d key : RowKey) (l : List RowKey) → AllRise l → list_any (is_same key) l ≡ true → IsBelow (last_or d l) key → ⊥
last_greatest d key [] rises among below = false≢true among
last_greatest d key (y ∷ l) rises among below = by_test (is_same key y) refl (last_greatest y key l rises.1)
  where
    by_test : (t : Bool) → is_same key y ≡ t → (list_any (is_same key) l ≡ true → IsBelow (last_or y l) key → ⊥) → ⊥
    by_test true is later = not_before_head y l rises (subst (IsBelow (last_or y l)) (same_is_one key y is) below)
    by_test false is later = later (subst (λ (t : Bool). t || list_any (is_same key) l ≡ true) is among) below

-- a key among two lists is among one of them
either : (p : RowKey → Bool) (l m : List RowKey) → list_any p (l ++ m) ≡ true → (list_any p l ≡ true) ⊎ (list_any p m ≡ true)
either p [] m e = inr e
either p (x ∷ l) m e = by_test (p x) refl (either p l m)
  where
    by_test : (t : Bool) → p x ≡ t → (list_any p (l ++ m) ≡ true → (list_any p l ≡ true) ⊎ (list_any p m ≡ true)) → (list_any p (x ∷ l) ≡ true)
        ⊎ (list_any p m ≡ true)
    by_test true is later = inl (ap (λ (t : Bool). t || list_any p l) is)
    by_test false is later = elim (later (subst (λ (t : Bool). t || list_any p (l ++ m) ≡ true) is e)) [
      | inl here ↦ inl (ap (λ (t : Bool). t || list_any p l) is ∙ here)
      | inr there ↦ inr there
    ]

behind_rises : (l m : List RowKey) → AllRise (l ++ m) → AllRise m
behind_rises [] m rises = rises
behind_rises (x ∷ l) m rises = behind_rises l m rises.1

-- those found so far, and those that are left
pub record Walked (all : Rows) (from to : RowKey) (found : List RowKey) (left : ℕ) : Type 0 where
  pub rest : List RowKey
  pub are : AreKeys all from to (found ++ rest)
  pub size : left ≡ length rest

pub begins : (all : Rows) (from to : RowKey) (count : ℕ) → IsCount all from to count → Walked all from to [] count
begins all from to count (ks, are, size) = record { rest = ks; are = are; size = size }

pub ends : (all : Rows) (from to : RowKey) (found : List RowKey) → Walked all from to found 0 → AreKeys all from to found
ends all from to found walked = by_rest walked.rest walked.are walked.size
  where
    by_rest : (rest : List RowKey) → AreKeys all from to (found ++ rest) → 0 ≡ length rest → AreKeys all from to found
    by_rest [] are size = subst (AreKeys all from to) (append-nil found) are
    by_rest (x ∷ rest) are size = absurd (omega arith)

module _ (all : Rows) (from to : RowKey) (absent : all from ≡ None) (kinds : kind_of to ≡ kind_of from) where
  from_under : (x : RowKey) → IsBetween all from to x → IsBelow from x
  from_under x is = by_order (key_order x from) refl
    where
      by_order : (o : Ordering) → key_order x from ≡ o → IsBelow from x
      by_order Less e = absurd (is.not_below e)
      by_order Equal e = absurd (false≢true (sym (ap is_some (ap all (one_key x from e) ∙ absent)) ∙ is.has_row))
      by_order Greater e = above_below x from e

  same_kind : (x : RowKey) → IsBetween all from to x → kind_of x ≡ kind_of from
  same_kind x is = omega (arith, kinds_rise from x (ap is_gt (from_under x is)), kinds_rise x to (ap is_gt is.below), kinds)

  module _ (found rest : List RowKey) (x : RowKey) (are : AreKeys all from to (found ++ x ∷ rest)) where
    abbrev pub last : RowKey
    last = last_or from found

    between_x : IsBetween all from to x
    between_x = all_at (IsBetween all from to) found rest x are.each

    x_above : IsAbove all last x
    x_above = record {
      has_row = between_x.has_row;
      same_kind = same_kind x between_x
          ∙ sym (last_has (λ k. kind_of k ≡ kind_of from) from found refl (all_kinds found (all_before _ found (x ∷ rest) are.each)));
      above = last_under from x found rest (from_under x between_x) are.rise;
    }
      where
        all_kinds : (l : List RowKey) → AllByRecursion (IsBetween all from to) l → AllByRecursion (λ k. kind_of k ≡ kind_of from) l
        all_kinds [] each = tt
        all_kinds (y ∷ l) each = (same_kind y each.0, all_kinds l each.1)

    module _ (key : RowKey) (row : Row) (is : IsNext all last key row) where
      not_over_x : IsBelow x key → ⊥
      not_over_x = is.least x x_above

      over_from : IsBelow key from → ⊥
      over_from below = last_has (λ k. IsBelow k from → ⊥) from found (not_itself from) (all_over found (all_before _ found (x ∷ rest) are.each))
          (key_order_total.trans last key from is.is_above.above below)
        where
          all_over : (l : List RowKey) → AllByRecursion (IsBetween all from to) l → AllByRecursion (λ k. IsBelow k from → ⊥) l
          all_over [] each = tt
          all_over (y ∷ l) each = (each.0.not_below, all_over l each.1)

      between_key : IsBetween all from to key
      between_key = record { has_row = is.is_above.has_row; not_below = over_from; below = by_order (key_order x key) refl }
        where
          by_order : (o : Ordering) → key_order x key ≡ o → IsBelow key to
          by_order Less e = absurd (not_over_x e)
          by_order Equal e = subst (λ k. IsBelow k to) (one_key x key e) between_x.below
          by_order Greater e = key_order_total.trans key x to (above_below x key e) between_x.below

      pub the_next : key ≡ x
      the_next = elim (either (is_same key) found (x ∷ rest) (are.every key between_key)) [
        | inl here ↦ absurd (last_greatest from key found (front_rises found (x ∷ rest) are.rise) here is.is_above.above)
        | inr there ↦ by_test (is_same key x) refl there
      ]
        where
          over_x : (l : List RowKey) → AllByRecursion (λ other. IsBelow x other) l → list_any (is_same key) l ≡ true → IsBelow x key
          over_x [] below among = absurd (false≢true among)
          over_x (y ∷ l) below among = head (is_same key y) refl (over_x l below.1)
            where
              head : (t : Bool) → is_same key y ≡ t → (list_any (is_same key) l ≡ true → IsBelow x key) → IsBelow x key
              head true e later = subst (IsBelow x) (sym (same_is_one key y e)) below.0
              head false e later = later (subst (λ (t : Bool). t || list_any (is_same key) l ≡ true) e among)

          by_test : (t : Bool) → is_same key x ≡ t → list_any (is_same key) (x ∷ rest) ≡ true → key ≡ x
          by_test true e there = same_is_one key x e
          by_test false e there =
              absurd (not_over_x (over_x rest (behind_rises found (x ∷ rest) are.rise).0
              (subst (λ (t : Bool). t || list_any (is_same key) rest ≡ true) e there)))

  -- one step further
  pub steps : (found now : List RowKey) (left : ℕ) → 0 < left → IsStep all from found now → Walked all from to found left → Walked all from to now (left - 1)
  steps found now left some step walked = by_rest walked.rest walked.are walked.size step
    where
      by_rest : (rest : List RowKey) → AreKeys all from to (found ++ rest) → left ≡ length rest → IsStep all from found now → Walked all from to now (left - 1)
      by_rest [] are size step = absurd (omega arith)
      by_rest (x ∷ rest) are size (inl none) = absurd (none.0 x (x_above found rest x are))
      by_rest (x ∷ rest) are size (inr (key, row, is, now_is)) =
          let same = the_next found rest x are key row is in
          let grown : (found ++ x ∷ []) ++ rest ≡ found ++ x ∷ rest = append_assoc found (x ∷ []) rest in
          record {
            rest = rest;
            are = subst (λ l. AreKeys all from to (l ++ rest)) (sym (now_is ∙ ap (λ k. found ++ k ∷ []) same)) (subst (AreKeys all from to) (sym grown) are);
            size = omega (arith, size);
          }

pub last_is : (d x : RowKey) (l : List RowKey) → 1 ≤ length l → x ≡ get_or l (length l - 1) x → x ≡ last_or d l
last_is d x [] some e = absurd (omega arith)
last_is d x (y ∷ []) some e = e
last_is d x (y ∷ z ∷ l) some e =
    let first : length (y ∷ z ∷ l) - 1 ≡ suc (length l) = omega arith in
    let second : length l ≡ length (z ∷ l) - 1 = omega arith in
    last_is y x (z ∷ l) (omega arith) (e ∙ ap (λ n. get_or (y ∷ z ∷ l) n x) first ∙ ap (λ n. get_or (z ∷ l) n x) second)

pub step_left : (count counter : ℕ) → count - counter - 1 ≡ count - (counter + 1)
step_left count counter = omega arith
