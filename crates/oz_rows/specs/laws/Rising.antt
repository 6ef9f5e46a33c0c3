-- Items in the order of their keys, and what edits keep of it.
use Rattle.std.proofs.Common.{◌≡◌, ℕ, zero, suc, List, [], ◌∷◌, ◌++◌, drop, sym, ◌∙◌}
use Rattle.std.specs.List.{AllByRecursion}
use Rattle.std.specs.declared.cmp.Ordering.TheVariants.{Less, Equal, Greater}
use Rattle.oz_rows.specs.declared.key.RowKey.{RowKey}
use Rattle.oz_rows.specs.Order.{key_order}
use Rattle.oz_rows.specs.RowMaps.{IsBelow}
use Rattle.oz_rows.specs.laws.Order.{key_order_total, alike, alike_left, below_above, above_below}
use Rattle.oz_rows.specs.laws.Splits.{all_with, all_without, all_at}

module _ {A : Type 0} (key_of : A → RowKey) where
  -- the key of each item is below those behind it
  abbrev pub Rise : List A → Type 0
  Rise [] = Unit {0}
  Rise (item ∷ others) = AllByRecursion (λ other. IsBelow (key_of item) (key_of other)) others × Rise others

  abbrev pub AllUnder : RowKey → List A → Type 0
  AllUnder key items = AllByRecursion (λ item. key_order (key_of item) key ≡ Less) items

  abbrev pub AllOver : RowKey → List A → Type 0
  AllOver key items = AllByRecursion (λ item. key_order (key_of item) key ≡ Greater) items

  -- an item whose key is below all of these
  under : (x : A) (b : List A) → AllOver (key_of x) b → AllByRecursion (λ other. IsBelow (key_of x) (key_of other)) b
  under x [] above = tt
  under x (y ∷ b) above = (above_below (key_of y) (key_of x) above.0, under x b above.1)

  -- what is behind an item is above each key that is the item's, and above each lower one
  pub over_same : (x : A) (key : RowKey) (b : List A) → key_order (key_of x) key ≡ Equal → AllByRecursion (λ other. IsBelow (key_of x) (key_of other)) b
      → AllOver key b
  over_same x key [] same below = tt
  over_same x key (y ∷ b) same below = (below_above key (key_of y) (sym (alike_left (key_of x) key (key_of y) same) ∙ below.0), over_same x key b same below.1)

  pub over_lower : (x : A) (key : RowKey) (b : List A) → IsBelow key (key_of x) → AllByRecursion (λ other. IsBelow (key_of x) (key_of other)) b → AllOver key b
  over_lower x key [] lower below = tt
  over_lower x key (y ∷ b) lower below =
      (below_above key (key_of y) (key_order_total.trans key (key_of x) (key_of y) lower below.0), over_lower x key b lower below.1)

  pub rise_with : (a b : List A) (x : A) → AllUnder (key_of x) a → AllOver (key_of x) b → Rise (a ++ b) → Rise (a ++ x ∷ b)
  rise_with [] b x below above rise = (under x b above, rise)
  rise_with (y ∷ a) b x below above rise = (all_with _ a b x below.0 rise.0, rise_with a b x below.1 above rise.1)

  pub rise_without : (a b : List A) (x : A) → Rise (a ++ x ∷ b) → Rise (a ++ b)
  rise_without [] b x rise = rise.1
  rise_without (y ∷ a) b x rise = (all_without _ a b x rise.0, rise_without a b x rise.1)

  -- before the item of a key are lower keys, and behind it greater ones
  pub before_at : (a b : List A) (x : A) (key : RowKey) → key_order (key_of x) key ≡ Equal → Rise (a ++ x ∷ b) → AllUnder key a
  before_at [] b x key same rise = tt
  before_at (y ∷ a) b x key same rise =
      (sym (alike (key_of x) key (key_of y) same) ∙ all_at (λ (other : A). IsBelow (key_of y) (key_of other)) a b x rise.0, before_at a b x key same rise.1)

  pub behind_at : (a b : List A) (x : A) (key : RowKey) → key_order (key_of x) key ≡ Equal → Rise (a ++ x ∷ b) → AllOver key b
  behind_at [] b x key same rise = over_same x key b same rise.0
  behind_at (y ∷ a) b x key same rise = behind_at a b x key same rise.1

  pub rise_replaced : (a b : List A) (old new : A) → key_order (key_of old) (key_of new) ≡ Equal → Rise (a ++ old ∷ b) → Rise (a ++ new ∷ b)
  rise_replaced a b old new same rise =
      rise_with a b new (before_at a b old (key_of new) same rise) (behind_at a b old (key_of new) same rise) (rise_without a b old rise)

  pub rise_rest : (l : List A) (at : ℕ) → Rise l → Rise (drop at l)
  rise_rest l zero rise = rise
  rise_rest [] (suc at) rise = rise
  rise_rest (x ∷ l) (suc at) rise = rise_rest l at rise.1
