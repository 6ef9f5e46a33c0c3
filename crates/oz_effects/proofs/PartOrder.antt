-- How keys that begin alike stand to others.
use Rattle.std.proofs.Common.{◌≡◌, ℕ, zero, suc, Bool, true, false, List, [], ◌∷◌, length, take, refl, sym, ◌∙◌, ap}
use mathlib.Core.Bool.{false≢true}
use Rattle.std.specs.Ordering.{nat_cmp, is_gt, is_ge, ordering_then, ordering_reverse}
use Rattle.std.specs.declared.cmp.Ordering.{Ordering}
use Rattle.std.specs.declared.cmp.Ordering.TheVariants.{Less, Equal, Greater}
use Rattle.std.specs.Cmp.{IsTotalOrder}
use Rattle.std.specs.Cmp.Lexicographic.{slice_cmp}
use Rattle.std.proofs.lemmas.Cmp.{lists_total, nat_list_cmp_total}
use Rattle.oz_rows.specs.declared.key.RowKey.{RowKey}
use Rattle.oz_rows.specs.RowMaps.{IsBelow}
use Rattle.oz_effects.specs.Parts.{fields_of, part_order}
use Rattle.oz_rows.specs.laws.Order.{greater_from_test}

module _ {X : Type 0} {cmp : X → X → Ordering} (order : IsTotalOrder cmp) where
  below_not_above : (a b c : X) (o : Ordering) → cmp b c ≡ o → is_gt o ≡ false → cmp a b ≡ Less → cmp a c ≡ Less
  below_not_above a b c Less e not_above below = order.trans a b c below e
  below_not_above a b c Equal e not_above below = let level = order.congr b c a e in order.antisymm a c ∙ ap ordering_reverse (sym level ∙ order.antisymm b a ∙ ap ordering_reverse below)
  below_not_above a b c Greater e not_above below = absurd (false≢true (sym not_above))

  not_above_below : (a b c : X) (o : Ordering) → cmp a b ≡ o → is_gt o ≡ false → cmp b c ≡ Less → cmp a c ≡ Less
  not_above_below a b c Less e not_above below = order.trans a b c e below
  not_above_below a b c Equal e not_above below = order.congr a b c e ∙ below
  not_above_below a b c Greater e not_above below = absurd (false≢true (sym not_above))

-- the first fields of a lower key are not above those of a greater one
fronts_rise : (n : ℕ) (x y : List (List ℕ)) → is_gt (slice_cmp (slice_cmp nat_cmp) x y) ≡ false → is_gt (slice_cmp (slice_cmp nat_cmp) (take n x) (take n y)) ≡ false
fronts_rise zero x y le = refl
fronts_rise (suc n) [] [] le = refl
fronts_rise (suc n) [] (b ∷ y) le = refl
fronts_rise (suc n) (a ∷ x) [] le = absurd (false≢true (sym le))
fronts_rise (suc n) (a ∷ x) (b ∷ y) le = by (fronts_rise n x y) (slice_cmp nat_cmp a b) le
  where
    by : (is_gt (slice_cmp (slice_cmp nat_cmp) x y) ≡ false → is_gt (slice_cmp (slice_cmp nat_cmp) (take n x) (take n y)) ≡ false)
        → (o : Ordering) → is_gt (ordering_then o (slice_cmp (slice_cmp nat_cmp) x y)) ≡ false → is_gt (ordering_then o (slice_cmp (slice_cmp nat_cmp) (take n x) (take n y))) ≡ false
    by behind Less e = refl
    by behind Equal e = behind e
    by behind Greater e = e

lists : IsTotalOrder (slice_cmp (slice_cmp nat_cmp))
lists = lists_total nat_list_cmp_total

is_less : (o : Ordering) → is_ge o ≡ false → o ≡ Less
is_less Less e = refl
is_less Equal e = absurd (false≢true (sym e))
is_less Greater e = absurd (false≢true (sym e))

is_equal : (o : Ordering) → is_gt o ≡ false → is_ge o ≡ true → o ≡ Equal
is_equal Less not_above e = absurd (false≢true e)
is_equal Equal not_above e = refl
is_equal Greater not_above e = absurd (false≢true (sym not_above))

module _ (front : List (List ℕ)) where
  rises : (a b : RowKey) → IsBelow a b → is_gt (slice_cmp (slice_cmp nat_cmp) (take (length front) (fields_of a)) (take (length front) (fields_of b))) ≡ false
  rises a b below = fronts_rise (length front) (fields_of a) (fields_of b) (ap is_gt below)

  pub above_falls : (a b : RowKey) → IsBelow a b → is_gt (part_order front b) ≡ true → is_gt (part_order front a) ≡ true
  above_falls a b below e =
      let turned = λ (key : RowKey). lists.antisymm front (take (length front) (fields_of key)) in
      let lower = lists.antisymm (take (length front) (fields_of b)) front ∙ ap ordering_reverse (greater_from_test (part_order front b) e) in
      ap is_gt (turned a ∙ ap ordering_reverse (not_above_below lists _ _ front _ refl (rises a b below) lower))

  pub not_below_falls : (a b : RowKey) → IsBelow a b → is_ge (part_order front b) ≡ true → is_ge (part_order front a) ≡ true
  not_below_falls a b below e = by (is_ge (part_order front a)) refl
    where
      by : (t : Bool) → is_ge (part_order front a) ≡ t → is_ge (part_order front a) ≡ true
      by true same = same
      by false same =
          let less = below_not_above lists front _ _ _ refl (rises a b below) (is_less (part_order front a) same) in
          absurd (false≢true (sym (ap is_ge less) ∙ e))
